-- What is answered to an edit that was made before, under its token, and is settled.
use Rattle.std.proofs.Common.{◌≡◌, ℕ, ◌≤◌, ◌&&◌, Bool, true, false, List, [], ◌∷◌, Option, Some, None, refl, sym, ap, ◌∙◌, subst, inl, inr, arith}
use Rattle.std.specs.Prelude.{is_none}
use Rattle.disk_trait.specs.declared.facts.DiskFacts.{Ghosts}
use Rattle.op_model.specs.Actions.{Asked}
use Rattle.op_model.specs.Machine.{Event, Answer as Reply, Ticket, ack, ticket, acknowledged, refused}
use Rattle.op_model.specs.Machine.{State, known_ticket, EditStep}
use Rattle.model_laws.proofs.Tickets.{known_is}
use Rattle.locked_replica.specs.Calls.{IsCall}
use Rattle.locked_replica.specs.Hub.{Parts, state_of}
use Rattle.locked_replica.specs.Run.{Calls}
use Rattle.session_lines.specs.Saying.{number_of}
use Rattle.session_lines.specs.declared.answer.Answer.{Answer}
use Rattle.session_lines.specs.declared.answer.Answer.TheVariants.{Edited, Text, Spans, Versions, Changes, Anchors, Places, Exported}
use Rattle.session_lines.specs.declared.answer.Answer.TheVariants.{Status, Peers, Documents, Room, Stopped, Done, Refused, RefusedAt}
use Rattle.session_threads.specs.ActsOnce.{ChangesNothing}
use Rattle.session_threads.specs.HeldDesk.{HeldDesk}
use Rattle.session_lines.specs.declared.refusal.Refusal.{Refusal}
use Rattle.session_threads.specs.HubServing.{comes_too_late, Acknowledge, at_once, after_commit, AnswersEdit, IsRefusedEdit, ServesEdit}

-- an edit that was made before gets its ticket, and the state stays
pub record StaysKnown (s next : State) (given t : Ticket) : Type 0 where
  pub same : given ≡ t
  pub stays : next ≡ s

known_stays : (s next : State) (session : ℕ) (e : Asked) (given t : Ticket) → known_ticket s.held e ≡ Some t → EditStep s session e (ticket given) next
    → StaysKnown s next given t
known_stays s next session e given t found (answer, is) =
    let due : ticket t ≡ ticket given = rw found at answer in
    let same : given ≡ t = cc in
    let known : given.known ≡ true = ap (λ (k : Ticket). k.known) same ∙ (known_is s.held e t found).known in
    record { same = same; stays = rw known at is }

-- and it isn't refused
never_refused : (s next : State) (session : ℕ) (e : Asked) (n : ℕ) (t : Ticket) → known_ticket s.held e ≡ Some t → EditStep s session e (refused n) next → ⊥
never_refused s next session e n t found (due, is) =
    let new = rw found at due in let known = (known_is s.held e t found).known in cc

module _ {D : Type 0} (facts : Ghosts D) where
  -- a ticket that is settled isn't found open
  never_open : (old new : Parts D) (t : Ticket) → t.end ≤ old.replica.settled → IsCall facts (ack t) (acknowledged false) old new → ⊥
  never_open old new t settled call = let later = call.step.0 in omega (arith, settled, later)

  -- behind its edit a settled ticket is still settled, with the same end
  still_settled : (old mid : Parts D) (given t : Ticket) → StaysKnown (state_of old) (state_of mid) given t → t.end ≤ old.replica.settled
      → given.end ≤ mid.replica.settled
  still_settled old mid given t it settled =
      omega (arith, settled, ap (λ (k : Ticket). k.end) it.same, ap (λ s. s.held.settled) it.stays)

  acknowledged_at_once : (mid new : Parts D) (given : Ticket) (acks : List (Event × Reply)) → given.end ≤ mid.replica.settled → Acknowledge given acks
      → Calls facts mid acks new → (new.store ≡ mid.store) × (new.replica.list ≡ mid.replica.list)
  acknowledged_at_once mid new given acks settled (at_once is) calls =
      let (end, one, same) : Calls facts mid ((ack given, acknowledged true) ∷ []) new = subst (λ k. Calls facts mid k new) is calls in
      (ap (λ h. h.store) same ∙ one.store, ap (λ h. h.replica.list) same ∙ ap (λ (s : State). s.held.list) one.step.1)
  acknowledged_at_once mid new given acks settled (after_commit commit only is) calls =
      let (behind, one, more) = subst (λ k. Calls facts mid k new) is calls in absurd (never_open mid behind given settled one)

  known_never_refused : (session : ℕ) (old new : Parts D) (e : Asked) (t : Ticket) (refusal : Refusal) (place : Option ℕ)
      → known_ticket old.replica e ≡ Some t → IsRefusedEdit facts session old new e refusal place → ⊥
  known_never_refused session old new e t refusal place found it =
      let (mid, one, same) = it.calls in never_refused (state_of old) (state_of mid) session e (number_of refusal) t found one.step

  answered_known : (session : ℕ) (old new : Parts D) (e : Asked) (t : Ticket) (answer : Answer) → known_ticket old.replica e ≡ Some t
      → t.end ≤ old.replica.settled → AnswersEdit facts session old e answer new
      → (answer ≡ Edited t.rev) × (new.store ≡ old.store) × (new.replica.list ≡ old.replica.list)
  answered_known session old new e t (Edited rev) found settled it =
      let (mid, one, acks) = it.calls in
      let known = known_stays (state_of old) (state_of mid) session e it.given t found one.step in
      let (store, list) = acknowledged_at_once mid new it.given it.acks (still_settled old mid it.given t known settled) it.how acks in (
        ap Edited (sym it.same ∙ ap (λ (k : Ticket). k.rev) known.same),
        store ∙ one.store,
        list ∙ ap (λ (s : State). s.held.list) known.stays,
      )
  answered_known session old new e t (Refused refusal) found settled (inl it) = absurd (known_never_refused session old new e t refusal None found it)
  answered_known session old new e t (Refused refusal) found settled (inr (failed, it)) =
      let (mid, one, behind) = it.calls in
      let known = known_stays (state_of old) (state_of mid) session e it.given t found one.step in
      absurd (never_open mid behind.0 it.given (still_settled old mid it.given t known settled) behind.1)
  answered_known session old new e t (Text rev text) found settled never = absurd never
  answered_known session old new e t (Spans rev spans) found settled never = absurd never
  answered_known session old new e t (Versions rev versions) found settled never = absurd never
  answered_known session old new e t (Changes rev changes) found settled never = absurd never
  answered_known session old new e t (Anchors rev anchors) found settled never = absurd never
  answered_known session old new e t (Places rev places) found settled never = absurd never
  answered_known session old new e t (Exported rev bytes) found settled never = absurd never
  answered_known session old new e t (Status applied n s) found settled never = absurd never
  answered_known session old new e t (Peers peers sessions) found settled never = absurd never
  answered_known session old new e t (Documents documents) found settled never = absurd never
  answered_known session old new e t (Room room) found settled never = absurd never
  answered_known session old new e t Stopped found settled never = absurd never
  answered_known session old new e t Done found settled never = absurd never
  answered_known session old new e t (RefusedAt refusal at) found settled it = absurd (known_never_refused session old new e t refusal (Some at) found it)

  -- what was made before doesn't come too late
  in_time : (stopping : Bool) (found : Option Ticket) (t : Ticket) → found ≡ Some t → (stopping && is_none found) ≡ false
  in_time true found t is = rw is refl
  in_time false found t is = refl

  pub settled_answered : (old new : HeldDesk D) (e : Asked) (t : Ticket) (answer : Answer) → known_ticket old.hub.replica e ≡ Some t
      → t.end ≤ old.hub.replica.settled → ServesEdit facts old e answer new → (answer ≡ Edited t.rev) × ChangesNothing old new
  settled_answered old new e t answer found settled it =
      let late : comes_too_late old e ≡ false = in_time old.stopping (known_ticket old.hub.replica e) t found in
      let served = rw (late, ServesEdit) at it in
      let (said, store, list) = answered_known old.session old.hub new.hub e t answer found settled served.0 in
      (said, (store, list))
