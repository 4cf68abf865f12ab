-- What a desk over a hub makes of the lines of a session is one list of calls.
use Rattle.std.proofs.Common.{◌≡◌, ℕ, Bool, true, false, List, [], ◌∷◌, ◌++◌, ap, refl, inl, inr, Option, Result, Ok, Err}
use Rattle.disk_trait.specs.declared.facts.DiskFacts.{Ghosts}
use Rattle.op_model.specs.Actions.{Asked}
use Rattle.op_model.specs.Machine.{Event, Answer as Reply, edit, ack, ticket, acknowledged, refused}
use Rattle.locked_replica.specs.Hub.{Parts}
use Rattle.locked_replica.specs.Run.{Calls}
use Rattle.hub_parts.specs.Asked.{asked_now}
use Rattle.session_lines.specs.Saying.{number_of}
use Rattle.session_lines.specs.declared.command.Command.{Command}
use Rattle.session_lines.specs.declared.command.Command.TheVariants as command
use Rattle.session_lines.specs.declared.answer.Answer.{Answer}
use Rattle.session_lines.specs.declared.answer.Answer.TheVariants.{Edited, Text, Spans, Versions, Changes, Anchors, Places, Exported}
use Rattle.session_lines.specs.declared.answer.Answer.TheVariants.{Status, Peers, Documents, Room, Stopped, Done, Refused, RefusedAt}
use Rattle.session_lines.specs.declared.refusal.Refusal.{Refusal}
use Rattle.session_threads.specs.Exchanges.{IsAnswered, Exchange, Exchanges}
use Rattle.session_threads.specs.HeldDesk.{HeldDesk}
use Rattle.session_threads.specs.HubServing.{comes_too_late, AnswersEdit, ServesEdit, Serves}
use Rattle.session_threads.specs.Outcomes.{CutOff}
use Rattle.session_threads.proofs.CallLemmas.{Calls-append}

module _ {D : Type 0} (facts : Ghosts D) where
  -- some calls lead from one hub to the other
  abbrev pub Goes : Parts D → Parts D → Type 0
  Goes old new = (events : List (Event × Reply)) × Calls facts old events new

  stays : (old new : HeldDesk D) → new ≡ old → Goes old.hub new.hub
  stays old new same = ([], ap (λ (d : HeldDesk D). d.hub) same)

  edit_goes : (session : ℕ) (old new : Parts D) (e : Asked) (answer : Answer) → AnswersEdit facts session old e answer new → Goes old new
  edit_goes session old new e (Edited rev) it = ((edit session e, ticket it.given) ∷ it.acks, it.calls)
  edit_goes session old new e (Refused refusal) (inl it) = ((edit session e, refused (number_of refusal)) ∷ [], it.calls)
  edit_goes session old new e (Refused refusal) (inr (failed, it)) = ((edit session e, ticket it.given) ∷ (ack it.given, acknowledged false) ∷ it.commit, it.calls)
  edit_goes session old new e (Text rev text) never = absurd never
  edit_goes session old new e (Spans rev spans) never = absurd never
  edit_goes session old new e (Versions rev versions) never = absurd never
  edit_goes session old new e (Changes rev changes) never = absurd never
  edit_goes session old new e (Anchors rev anchors) never = absurd never
  edit_goes session old new e (Places rev places) never = absurd never
  edit_goes session old new e (Exported rev bytes) never = absurd never
  edit_goes session old new e (Status applied settled s) never = absurd never
  edit_goes session old new e (Peers peers sessions) never = absurd never
  edit_goes session old new e (Documents documents) never = absurd never
  edit_goes session old new e (Room room) never = absurd never
  edit_goes session old new e Stopped never = absurd never
  edit_goes session old new e Done never = absurd never
  edit_goes session old new e (RefusedAt refusal at) it = ((edit session e, refused (number_of refusal)) ∷ [], it.calls)

  -- an edit that comes too late changes nothing
  edit_goes_unless : (late : Bool) (old new : HeldDesk D) (e : Asked) (answer : Answer) → comes_too_late old e ≡ late
      → ServesEdit facts old e answer new → Goes old.hub new.hub
  edit_goes_unless true old new e answer is it = stays old new (rw (is, ServesEdit) at it).1
  edit_goes_unless false old new e answer is it = edit_goes old.session old.hub new.hub e answer (rw (is, ServesEdit) at it).0

  command_goes : (old new : HeldDesk D) (c : Command) (answer : Answer) → Serves facts old c answer new → Goes old.hub new.hub
  command_goes old new (command.Edit p) answer (inl it) =
      let e = asked_now old.hub.replica p in edit_goes_unless (comes_too_late old e) old new e answer refl it
  command_goes old new (command.Edit p) answer (inr (looked_up, in_time, said, same)) = stays old new same
  command_goes old new (command.Text doc at_rev) answer (said, same) = stays old new same
  command_goes old new (command.Spans doc at_rev) answer (said, same) = stays old new same
  command_goes old new (command.Versions doc every) answer (said, same) = stays old new same
  command_goes old new (command.Changes doc since) answer (said, same) = stays old new same
  command_goes old new (command.Anchors doc at side) answer (said, same) = stays old new same
  command_goes old new (command.Places doc anchors) answer (said, same) = stays old new same
  command_goes old new (command.Find doc text from) answer (said, same) = stays old new same
  command_goes old new (command.Export doc form) answer (said, same) = stays old new same
  command_goes old new command.Status answer (said, same) = stays old new same
  command_goes old new command.Peers answer (said, same) = stays old new same
  command_goes old new command.Documents answer (said, same) = stays old new same
  command_goes old new command.Room answer (said, same) = stays old new same
  command_goes old new command.Stop answer (is_settled, said, commits, stopping) = (commits.calls.events, commits.calls.calls)

  answer_goes : (old new : HeldDesk D) (taken : Result Command Refusal) (answer : Answer) → IsAnswered (Serves facts) old taken answer new
      → Goes old.hub new.hub
  answer_goes old new (Err refusal) answer (said, same) = stays old new same
  answer_goes old new (Ok c) answer serves = command_goes old new c answer serves

  exchange_goes : (old new : HeldDesk D) (line : Option (List ℕ)) (text : List ℕ) → Exchange (Serves facts) old line text new
      → Goes old.hub new.hub
  exchange_goes old new line text it = answer_goes old new it.taken it.answer it.is_answered

  then_goes : (old between new : Parts D) → Goes old between → Goes between new → Goes old new
  then_goes old between new (es, calls) (fs, later) = (es ++ fs, Calls-append facts old between new es fs calls later)

  pub exchanges_go : (lines : List (Option (List ℕ))) (old new : HeldDesk D) (text : List ℕ) → Exchanges (Serves facts) old lines text new
      → Goes old.hub new.hub
  exchanges_go [] old new text (nothing, same) = stays old new same
  exchanges_go (line ∷ lines) old new text (between, first, rest, one, more, joined) =
      then_goes old.hub between.hub new.hub (exchange_goes old between line first one) (exchanges_go lines between new rest more)

  pub cut_off_goes : (lines : List (Option (List ℕ))) (old new : HeldDesk D) (written : List ℕ) → CutOff (Serves facts) old lines written new
      → Goes old.hub new.hub
  cut_off_goes [] old new written (nothing, same) = stays old new same
  cut_off_goes (line ∷ []) old new written (text, one, begins) = exchange_goes old new line text one
  cut_off_goes (line ∷ next ∷ lines) old new written (between, first, rest, one, more, joined) =
      then_goes old.hub between.hub new.hub (exchange_goes old between line first one) (cut_off_goes (next ∷ lines) between new rest more)
