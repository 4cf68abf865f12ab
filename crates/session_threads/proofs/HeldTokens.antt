-- What holds of an edit with a token from its first answer on.
use Rattle.std.proofs.Common.{◌≡◌, ℕ, zero, ◌+◌, ◌≤◌, ◌<◌, Bool, true, false, List, [], ◌∷◌, ◌++◌, length, take, Some}
use Rattle.std.proofs.Common.{refl, sym, ap, ◌∙◌, subst, inl, inr, arith}
use Rattle.disk_trait.specs.Calls.{IsLawful}
use Rattle.disk_trait.specs.declared.facts.DiskFacts.{Ghosts}
use Rattle.op_model.specs.Actions.{Asked}
use Rattle.op_model.specs.Machine.{State, Event, Answer as Reply, Ticket, edit, ack, ticket, acknowledged, token_ticket, known_ticket, Run}
use Rattle.op_model.specs.Tokens.{carries, last_of}
use Rattle.world_law.proofs.Answered.{in_front}
use Rattle.world_law.proofs.Stays.{run_stays}
use Rattle.root_slots.specs.Root.{version_of}
use Rattle.recovery.proofs.ImageLemmas.{one_image}
use Rattle.locked_replica.specs.Hub.{Parts, state_of}
use Rattle.locked_replica.specs.Run.{Calls, calls_made, settled_by}
use Rattle.locked_replica.proofs.MachineSteps.{step_goes, step_rises}
use Rattle.locked_replica.proofs.RunLemmas.{ran_none}
use Rattle.session_lines.specs.declared.answer.Answer.TheVariants.{Edited, Refused}
use Rattle.session_lines.specs.declared.refusal.Refusal.TheVariants.{Stopping}
use Rattle.session_threads.specs.ActsOnce.{first_size}
use Rattle.session_threads.specs.ActsOnce.{Passage, session, crash, Survives, Holds, HasSession, OpensAfter}
use Rattle.session_threads.specs.ActsOnce.{Passes, HoldsOnceAnswered, HoldsForever, AnswersAgain, ActsOnce}
use Rattle.session_threads.specs.HeldDesk.{HeldDesk}
use Rattle.session_threads.specs.HubServing.{comes_too_late, Acknowledge, at_once, after_commit, IsAcknowledged, ServesEdit}
use Rattle.session_threads.proofs.KnownEdits.{settled_answered}
use Rattle.session_threads.proofs.RanLemmas.{ran_calls}
use Rattle.session_threads.proofs.SessionRuns.{Goes, exchanges_go, cut_off_goes}
use Rattle.session_threads.proofs.TokenEdits.{leaves_ticket}

module _ {D : Type 0} (facts : Ghosts D) where
  -- ---- calls

  is_run : (old new : Parts D) (events : List (Event × Reply)) → Calls facts old events new → Run (state_of old) events (state_of new)
  is_run old new [] same = ap (λ (h : Parts D). state_of h) same
  is_run old new (e ∷ es) (mid, one, more) = (state_of mid, one.step, is_run mid new es more)

  settled_rises : (old new : Parts D) (events : List (Event × Reply)) → Calls facts old events new
      → old.replica.settled ≤ new.replica.settled
  settled_rises old new [] same =
      let stays : new.replica.settled ≡ old.replica.settled = ap (λ (h : Parts D). h.replica.settled) same in omega (arith, stays)
  settled_rises old new (e ∷ es) (mid, one, more) =
      let once = step_rises old e.0 e.1 (state_of mid) one.step in
      let moved : mid.replica.settled ≡ settled_by old.replica.settled e.1 = (step_goes (state_of old) e.0 e.1 (state_of mid) one.step).settled in
      let rest = settled_rises mid new es more in
      omega (arith, once, moved, rest)

  pub stays_safe : (old new : Parts D) (events : List (Event × Reply)) → Calls facts old events new → Survives facts old → Survives facts new
  stays_safe old new [] same safe = subst (λ h. Survives facts h) (sym same) safe
  stays_safe old new (e ∷ es) (mid, one, more) safe =
      stays_safe mid new es more (record { image = one.recovers; settled = one.left })

  -- a token keeps its ticket
  keeps_ticket : (old new : Parts D) (events : List (Event × Reply)) (token : ℕ) (t : Ticket) → Calls facts old events new
      → token_ticket old.replica token ≡ Some t → token_ticket new.replica token ≡ Some t
  keeps_ticket old new events token t calls found = run_stays (state_of old) (state_of new) events (is_run old new events calls) token t found

  calls_keep : (token rev : ℕ) (old new : Parts D) (events : List (Event × Reply)) → Calls facts old events new → Holds facts token rev old
      → Holds facts token rev new
  calls_keep token rev old new events calls h =
      let was : h.given.end ≤ old.replica.settled = h.known.settled in
      let rose = settled_rises old new events calls in
      record {
        given = h.given;
        known = record { ticket = keeps_ticket old new events token h.given calls h.known.ticket; settled = omega (arith, was, rose) };
        same = h.same;
        survives = stays_safe old new events calls h.survives;
      }

  pub session_goes : (old new : HeldDesk D) → HasSession facts old new → Goes facts old.hub new.hub
  session_goes old new (lines, text, inl it) = exchanges_go facts lines old new text it
  session_goes old new (lines, text, inr it) = cut_off_goes facts lines old new text it

  -- ---- the first answer

  -- calls that end with an acknowledgement leave its ticket settled
  ends_settled : (before : List (Event × Reply)) (old new : Parts D) (t : Ticket) → Calls facts old (before ++ (ack t, acknowledged true) ∷ []) new
      → t.end ≤ new.replica.settled
  ends_settled [] old new t (hub, one, same) =
      let was : t.end ≤ old.replica.settled = one.step.0 in
      let stays : hub.replica.settled ≡ old.replica.settled = ap (λ (s : State). s.held.settled) one.step.1 in
      let is : new.replica.settled ≡ hub.replica.settled = ap (λ (h : Parts D). h.replica.settled) same in
      omega (arith, was, stays, is)
  ends_settled (e ∷ es) old new t (hub, one, more) = ends_settled es hub new t more

  pub acks_settle : (old new : Parts D) (t : Ticket) (acks : List (Event × Reply)) → Acknowledge t acks → Calls facts old acks new
      → t.end ≤ new.replica.settled
  acks_settle old new t acks (at_once is) calls = ends_settled [] old new t (subst (λ k. Calls facts old k new) is calls)
  acks_settle old new t acks (after_commit commit only is) calls =
      ends_settled ((ack t, acknowledged false) ∷ commit) old new t (subst (λ k. Calls facts old k new) is calls)

  acknowledged_holds : (number token rev : ℕ) (old new : Parts D) (e : Asked) → e.token ≡ Some token
      → 0 < first_size e.changes → Survives facts old → IsAcknowledged facts number old new e rev
      → Holds facts token rev new
  acknowledged_holds number token rev old new e named some safe it =
      let (mid, one, acks) = it.calls in
      let known = leaves_ticket (state_of old) (state_of mid) number e token it.given named some one.step in
      record {
        given = record it.given { known = true };
        known = record {
          ticket = keeps_ticket mid new it.acks token (record it.given { known = true }) acks known;
          settled = acks_settle mid new it.given it.acks it.how acks;
        };
        same = it.same;
        survives = stays_safe old new ((edit number e, ticket it.given) ∷ it.acks) it.calls safe;
      }

  -- an edit that comes too late isn't answered a rev
  edit_holds : (late : Bool) (token rev : ℕ) (old new : HeldDesk D) (e : Asked) → comes_too_late old e ≡ late → e.token ≡ Some token
      → 0 < first_size e.changes → Survives facts old.hub → ServesEdit facts old e (Edited rev) new
      → Holds facts token rev new.hub
  edit_holds true token rev old new e is named some safe it =
      let served = rw (is, ServesEdit) at it in let other : Edited rev ≡ Refused Stopping = served.0 in absurd (cc)
  edit_holds false token rev old new e is named some safe it =
      let served = rw (is, ServesEdit) at it in acknowledged_holds old.session token rev old.hub new.hub e named some safe served.0

  pub first_holds : (old : HeldDesk D) → Survives facts old.hub → HoldsOnceAnswered facts old
  first_holds old safe token rev new it =
      let (events, calls) = session_goes old it.before it.lines in
      edit_holds (comes_too_late it.before it.edit) token rev it.before new it.edit refl it.named it.some
      (stays_safe old.hub it.before.hub events calls safe) it.served

  -- ---- the same edit again

  pub again_answered : AnswersAgain facts
  again_answered token rev old new e answer h named it =
      let found : known_ticket old.hub.replica e ≡ Some h.given = rw named h.known.ticket in
      let (said, nothing) = settled_answered facts old new e h.given answer found h.known.settled it in
      (said ∙ ap Edited h.same, nothing)

module _ {D : Type 0} (facts : Ghosts D) (lawful : (disk : D) → facts.tells disk → IsLawful facts disk) where
  -- ---- a crash

  crash_keeps : (token rev : ℕ) (old : HeldDesk D) (hub : Parts D) → Holds facts token rev old.hub → OpensAfter facts old hub
      → Holds facts token rev hub
  crash_keeps token rev old hub h it =
      let last : Parts D = it.last.hub in
      let (events, calls) = session_goes facts old it.last it.lines in
      let none = ran_none facts old.hub (lawful old.hub.store.disk) h.survives.settled h.survives.image in
      let ran = ran_calls facts lawful old.hub old.hub last [] events none calls in
      let now : facts.time old.hub.store.disk ≡ facts.time old.hub.store.disk + calls_made (take zero events) = omega arith in
      let has = ran.fronts it.tells 0 it.file (omega arith) (subst (λ t. facts.left_since last.store.disk t it.file) now it.left) in
      let ticket = keeps_ticket facts old.hub last events token h.given calls h.known.ticket in
      let (found, end) = in_front (record last.replica { settled = old.hub.replica.settled }) has.count token h.given
      (last_of (carries last.replica.replica token) last.replica.list) refl ticket h.known.settled has.enough in
      let (owner, version, list) = one_image it.file hub.replica.replica last.replica.replica (version_of hub.store.current.body) has.version
      hub.replica.list (take has.count last.replica.list) it.image has.image in
      let all : hub.replica.settled ≡ length hub.replica.list = ap (λ (s : State). s.held.settled) it.state in
      let long = ap length list in
      record {
        given = h.given;
        known = record { ticket = rw (owner, list) found; settled = omega (arith, end, all, long) };
        same = h.same;
        survives = it.survives;
      }

  passage_keeps : (token rev : ℕ) (old new : Parts D) (p : Passage) → Holds facts token rev old → Passes facts old p new → Holds facts token rev new
  passage_keeps token rev old new session h (desk, last, of_old, of_new, it) =
      let (events, calls) = session_goes facts desk last it in
      subst (λ hub. Holds facts token rev hub) of_new
      (calls_keep facts token rev desk.hub last.hub events calls (subst (λ hub. Holds facts token rev hub) (sym of_old) h))
  passage_keeps token rev old new crash h (desk, of_old, it) =
      crash_keeps token rev desk new (subst (λ hub. Holds facts token rev hub) (sym of_old) h) it

  pub forever_holds : HoldsForever facts
  forever_holds token rev old new [] h same = subst (λ hub. Holds facts token rev hub) (sym same) h
  forever_holds token rev old new (p ∷ ps) h (between, one, more) =
      forever_holds token rev between new ps (passage_keeps token rev old between p h one) more

  pub once_acted : (old : HeldDesk D) → Survives facts old.hub → ActsOnce facts old
  once_acted old safe token rev first later last passages e answer it lives named served =
      let first_held = first_holds facts old safe token rev first it in
      again_answered facts token rev later last e answer (forever_holds token rev first.hub later.hub passages first_held lives) named served
