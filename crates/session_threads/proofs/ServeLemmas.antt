-- What is answered to an edit.
use Rattle.std.proofs.Common.{◌≡◌, ℕ, ◌≤◌, Bool, true, false, ◌∷◌, [], ◌++◌, length, Option, Some, None, IsTrue, refl, sym, ap, subst, inl, inr, arith}
use Rattle.disk_trait.specs.declared.facts.DiskFacts.{Ghosts}
use Rattle.op_model.specs.Actions.{Asked}
use Rattle.op_model.specs.Machine.{State, Ticket, edit, ack, ticket, acknowledged, refused}
use Rattle.locked_replica.specs.Calls.{IsCall}
use Rattle.locked_replica.specs.Hub.{Parts, state_of}
use Rattle.session_lines.specs.Saying.{number_of}
use Rattle.session_lines.specs.declared.answer.Answer.{Answer}
use Rattle.session_lines.specs.declared.answer.Answer.TheVariants.{Edited, Text, Spans, Versions, Changes, Anchors, Places, Exported}
use Rattle.session_lines.specs.declared.answer.Answer.TheVariants.{Status, Peers, Documents, Room, Stopped, Done, Refused, RefusedAt}
use Rattle.session_lines.specs.declared.refusal.Refusal.{Refusal}
use Rattle.session_lines.specs.declared.refusal.Refusal.TheVariants.{Failed}
use Rattle.session_threads.specs.HubCalls.{IsQuiet, Commits, is_edit_refusal}
use Rattle.replica_core.specs.RefusedAt.{place_told}
use Rattle.session_threads.specs.HubServing.{refused_answer, AnswersEdit, AnswersTicket, IsRefusedEdit, at_once, after_commit}
use Rattle.session_threads.proofs.CallLemmas.{Calls-append, one_call}
use Rattle.hub_parts.proofs.TicketEnds.{ticket_within}
use Rattle.session_threads.proofs.EditLemmas.{edit_refusals, edit_is_quiet, refused_is_quiet, acknowledges, ack_is_quiet}

module _ {D : Type 0} (facts : Ghosts D) where
  -- a ticket's answer is the edit's
  pub answered : (session : ℕ) (old between new : Parts D) (e : Asked) (t : Ticket) (answer : Answer) → IsCall facts (edit session e) (ticket t) old between
      → AnswersTicket facts between t answer new → AnswersEdit facts session old e answer new
  answered session old between new e t (Edited rev) call (acks, how, calls, same) =
      record { given = t; acks = acks; how = how; calls = (between, call, calls); same = same }
  answered session old between new e t (Refused refusal) call (commit, only, calls, failed, cause) =
      inr (failed, record { given = t; commit = commit; only = only; calls = (between, call, calls); cause = cause })
  answered session old between new e t (Text rev text) call never = absurd never
  answered session old between new e t (Spans rev spans) call never = absurd never
  answered session old between new e t (Versions rev versions) call never = absurd never
  answered session old between new e t (Changes rev changes) call never = absurd never
  answered session old between new e t (Anchors rev anchors) call never = absurd never
  answered session old between new e t (Places rev places) call never = absurd never
  answered session old between new e t (Exported rev bytes) call never = absurd never
  answered session old between new e t (Status applied settled s) call never = absurd never
  answered session old between new e t (Peers peers sessions) call never = absurd never
  answered session old between new e t (Documents documents) call never = absurd never
  answered session old between new e t (Room room) call never = absurd never
  answered session old between new e t Stopped call never = absurd never
  answered session old between new e t Done call never = absurd never
  answered session old between new e t (RefusedAt refusal at) call never = absurd never

  answered_place : (session : ℕ) (old new : Parts D) (e : Asked) (refusal : Refusal) (place : Option ℕ)
      → IsRefusedEdit facts session old new e refusal place → AnswersEdit facts session old e (refused_answer refusal place) new
  answered_place session old new e refusal None it = inl it
  answered_place session old new e refusal (Some at) it = it

  -- a refusal of the hub is answered by its number, and with the place of the change that it is for
  pub answered_refusal : (session : ℕ) (old new : Parts D) (e : Asked) (refusal : Refusal) (n : ℕ) (answer : Answer) → number_of refusal ≡ n
      → IsCall facts (edit session e) (refused n) old new → answer ≡ refused_answer refusal (place_told new.replica e (number_of refusal))
      → AnswersEdit facts session old e answer new
  answered_refusal session old new e refusal n answer same call is =
      let it : IsRefusedEdit facts session old new e refusal (place_told new.replica e (number_of refusal)) = record {
        calls = one_call facts old new (edit session e) (refused (number_of refusal))
            (subst (λ k. IsCall facts (edit session e) (refused k) old new) (sym same) call);
        told = sym (ap (λ (s : State). place_told s.held e (number_of refusal)) call.step.1);
      } in
      subst (λ a. AnswersEdit facts session old e a new) (sym is) (answered_place session old new e refusal (place_told new.replica e (number_of refusal)) it)

  pub can_be_refused : (session : ℕ) (old new : Parts D) (e : Asked) (n : ℕ) → IsCall facts (edit session e) (refused n) old new → IsTrue (is_edit_refusal n)
  can_be_refused session old new e n call = edit_refusals (state_of old) (state_of new) session e n call.step

  pub ends_within : (session : ℕ) (old new : Parts D) (e : Asked) (t : Ticket) → IsCall facts (edit session e) (ticket t) old new → t.end ≤ length new.replica.list
  ends_within session old new e t call =
      ticket_within (state_of old) (state_of new) session e t call.step

  pub quiet_after : (session : ℕ) (old new : Parts D) (e : Asked) (t : Ticket) → IsQuiet (state_of old) → IsCall facts (edit session e) (ticket t) old new
      → IsQuiet (state_of new)
  quiet_after session old new e t quiet call = edit_is_quiet (state_of old) (state_of new) session e t quiet call.step

  pub quiet_refused : (session : ℕ) (old new : Parts D) (e : Asked) (n : ℕ) → IsQuiet (state_of old) → IsCall facts (edit session e) (refused n) old new
      → IsQuiet (state_of new)
  quiet_refused session old new e n quiet call = refused_is_quiet (state_of old) (state_of new) session e n quiet call.step

  -- a ticket that isn't settled leaves the list
  pub left_by_ack : (old new : Parts D) (t : Ticket) → IsCall facts (ack t) (acknowledged false) old new → new.replica.list ≡ old.replica.list
  left_by_ack old new t call = ap (λ s. s.held.list) call.step.1

  -- behind a commit of all that there is each ticket is acknowledged
  pub is_acknowledged : (old mid between new : Parts D) (t : Ticket) (b : Bool) → t.end ≤ length old.replica.list
      → IsCall facts (ack t) (acknowledged false) old mid → between.replica.list ≡ mid.replica.list → Commits facts mid true between
      → IsCall facts (ack t) (acknowledged b) between new → b ≡ true
  is_acknowledged old mid between new t b within first same commits call =
      let settled : t.end ≤ between.replica.settled =
      omega (arith, within, ap length (left_by_ack old mid t first), ap length same, commits.ends) in
      acknowledges (state_of between) (state_of new) t b settled call.step

  pub quiet_acknowledged : (old new : Parts D) (t : Ticket) (b : Bool) → IsQuiet (state_of old) → IsCall facts (ack t) (acknowledged b) old new
      → IsQuiet (state_of new)
  quiet_acknowledged old new t b quiet call = ack_is_quiet (state_of old) (state_of new) t b quiet call.step

  -- a ticket that is settled is acknowledged at once
  pub ticket_settled : (old new : Parts D) (t : Ticket) → IsCall facts (ack t) (acknowledged true) old new
      → AnswersTicket facts old t (Edited t.rev) new
  ticket_settled old new t call =
      ((ack t, acknowledged true) ∷ [], at_once refl, one_call facts old new (ack t) (acknowledged true) call, refl)

  -- another one behind a commit
  pub ticket_acknowledged : (old mid between new : Parts D) (t : Ticket) → IsCall facts (ack t) (acknowledged false) old mid
      → Commits facts mid true between → IsCall facts (ack t) (acknowledged true) between new → AnswersTicket facts old t (Edited t.rev) new
  ticket_acknowledged old mid between new t first commits call =
      let last = (ack t, acknowledged true) ∷ [] in (
        (ack t, acknowledged false) ∷ commits.calls.events ++ last,
        after_commit commits.calls.events commits.calls.only refl,
        (
          mid,
          first,
          Calls-append facts mid between new commits.calls.events last commits.calls.calls
              (one_call facts between new (ack t) (acknowledged true) call),
        ),
        refl,
      )

  pub ticket_left_open : (old mid new : Parts D) (t : Ticket) → IsCall facts (ack t) (acknowledged false) old mid
      → Commits facts mid false new → AnswersTicket facts old t (Refused Failed) new
  ticket_left_open old mid new t first commits =
      (commits.calls.events, commits.calls.only, (mid, first, commits.calls.calls), refl, commits.ends)
