-- What was promised at a moment that is in a locked part's past.
use Rattle.std.proofs.Common.{◌≡◌, ℕ, ◌+◌, ◌≤◌, Bool, true, false, ◌&&◌, List, ◌++◌, length, take}
use Rattle.std.proofs.Common.{refl, sym, ap, ◌∙◌, arith, length-append}
use Rattle.std.proofs.lemmas.List.{take-take, take_all, take_at, take-append-le}
use Rattle.std.proofs.lemmas.List.Elements.{All-head}
use Rattle.op_model.specs.Actions.{Asked, made_by_action}
use Rattle.op_model.specs.Causality.{clock_of}
use Rattle.op_model.specs.Machine.{Event, Answer, Ticket, edit, ack, tell, have, ticket, acknowledged, operations, clock, known_ticket}
use Rattle.op_model.specs.Telling.{untold}
use Rattle.op_model.specs.declared.op.Op.{Op}
use Rattle.model_laws.proofs.Tickets.{edit_cases, was_made, is_new}
use Rattle.hub_parts.specs.Fitting.{FitTogether, Side}
use Rattle.hub_parts.specs.Locked.{IsLocked, LockedHeld, state_of}
use Rattle.hub_parts.proofs.TicketEnds.{ticket_ends}
use Rattle.shared_hub.specs.Moments.{IsPastOf}
use Rattle.shared_hub.specs.Promises.{IsSafe, IsInList, IsTicketed, IsTold, WasMade, WasAnswered}

-- how many are settled is no more than how many the live root has
pub at_most : (l : LockedHeld) (side : Side) → FitTogether l side → l.replica.settled ≤ side.committed
at_most l side fit = by_test (side.due && side.idle) refl
  where
    by_test : (b : Bool) → (side.due && side.idle) ≡ b → l.replica.settled ≤ side.committed
    by_test true is = fit.through is
    by_test false is = let same = fit.settled is in omega (arith, same)

-- what was settled then is so now
pub stays_safe : (l : LockedHeld) (n : ℕ) → IsLocked l → n ≤ l.replica.settled → IsSafe l n
stays_safe l n sound few = record { settled = few; fronts = within }
  where
    within : (side : Side) → FitTogether l side → (k : ℕ) → side.committed ≤ k → take n (take k side.list) ≡ take n l.replica.list
    within side fit k more =
        let begun = sound.keeps.settled in
        let most = at_most l side fit in
        take-take n k side.list (omega (arith, few, more, most))
        ∙ ap (λ list. take n list) fit.front
        ∙ take-take n l.begun l.replica.list (omega (arith, few, begun))

-- a beginning of the list then is one of the list now
same_front : (l m : LockedHeld) (n : ℕ) → IsPastOf l m → n ≤ length m.replica.list → take n m.replica.list ≡ take n l.replica.list
same_front l m n past few =
    sym (ap (λ list. take n list) past.follows.list.1 ∙ take-append-le n m.replica.list past.follows.list.0 few)

-- the moment that an answer entered is in the past
module _ (l : LockedHeld) (event : Event) (answer : Answer) (w : WasAnswered l event answer) where
  pub then_past : IsPastOf l w.entered.after
  then_past =
      All-head (IsPastOf l) w.entered.after w.left.moments (rw (ap (λ p. p.moments) w.entered.entered) at w.past)

-- the operations of a new edit are in the list
new_in_list : (l : LockedHeld) (session : ℕ) (e : Asked) (t : Ticket) → WasAnswered l (edit session e) (ticket t) → t.known ≡ false
    → IsInList l e t.end
new_in_list l session e t w new =
    let before = w.entered.before in
    let after = w.entered.after in
    let step = w.entered.makes.makes.step in
    let past = then_past l (edit session e) (ticket t) w in
    let all = made_by_action before.replica.list before.replica.replica e in
    let held = rw new at step.1 in
    let list : after.replica.list ≡ before.replica.list ++ all = ap (λ s. s.held.list) held in
    let owner : l.replica.replica ≡ before.replica.replica = past.follows.replica ∙ ap (λ s. s.held.replica) held in
    let ends = ticket_ends (state_of before) (state_of after) session e t step new in
    let long : t.end ≡ length before.replica.list + length all = ends ∙ ap length list ∙ length-append before.replica.list all in
    let whole : take t.end l.replica.list ≡ before.replica.list ++ all =
    sym (same_front l after t.end past (omega (arith, ends))) ∙ ap (λ n. take n after.replica.list) ends
    ∙ take_all (length after.replica.list) after.replica.list (omega arith) ∙ list in
    let front : take (length before.replica.list) l.replica.list ≡ before.replica.list =
    sym (same_front l after (length before.replica.list) past (omega (arith, ends, long)))
    ∙ ap (λ ops. take (length before.replica.list) ops) list ∙ take_at before.replica.list all (length before.replica.list) refl in
    record {
      first = length before.replica.list;
      made = rw (front, owner) whole;
      long = rw (front, owner) long;
    }

-- and a known one was made in the past
known_was_made : (l : LockedHeld) (session : ℕ) (e : Asked) (t : Ticket) → WasAnswered l (edit session e) (ticket t) → t.known ≡ true
    → WasMade l e t
known_was_made l session e t w old =
    let before = w.entered.before in
    let after = w.entered.after in
    let step = w.entered.makes.makes.step in
    let same : after.replica ≡ before.replica = ap (λ s. s.held) (rw old at step.1) in
    elim (edit_cases (state_of before) e t step.0) [
      | was_made found k ↦ record {
        moment = after;
        past = then_past l (edit session e) (ticket t) w;
        known = ap (λ h. known_ticket h e) same ∙ found;
      }
      | is_new none given due ↦ let never : ⊥ = cc in absurd never
    ]

pub promise_made : (l : LockedHeld) (session : ℕ) (e : Asked) (t : Ticket) → WasAnswered l (edit session e) (ticket t) → IsTicketed l e t
promise_made l session e t w = record { new = new_in_list l session e t w; known = known_was_made l session e t w }

-- what was settled at a moment in the past is safe
past_safe : (l m : LockedHeld) (n : ℕ) → IsLocked l → IsPastOf l m → n ≤ m.replica.settled → IsSafe l n
past_safe l m n sound past few = let more = past.follows.settled in stays_safe l n sound (omega (arith, few, more))

pub promise_acknowledged : (l : LockedHeld) (t : Ticket) → WasAnswered l (ack t) (acknowledged true) → IsSafe l t.end
promise_acknowledged l t w =
    let step = w.entered.makes.makes.step in
    let same : w.entered.after.replica.settled ≡ w.entered.before.replica.settled = ap (λ s. s.held.settled) step.1 in
    past_safe l w.entered.after t.end w.sound (then_past l (ack t) (acknowledged true) w) (let few = step.0 in omega (arith, few, same))

-- what was said of the settled operations then is said of the same ones now
pub told_is : {A : Type 0} (l m : LockedHeld) (said : List Op → A) (it : A) → IsPastOf l m → it ≡ said (take m.replica.settled m.replica.list)
    → it ≡ said (take m.replica.settled l.replica.list)
told_is l m said it past is =
    let a = past.sound.keeps.settled in
    let b = past.sound.keeps.within in
    is ∙ ap said (same_front l m m.replica.settled past (omega (arith, a, b)))

-- and these are settled now
told_then : {A : Type 0} (l m : LockedHeld) (said : List Op → A) (it : A) → IsLocked l → IsPastOf l m
    → it ≡ said (take m.replica.settled m.replica.list) → IsTold l (λ n. said (take n l.replica.list)) it
told_then l m said it sound past is = record {
  count = m.replica.settled;
  safe = past_safe l m m.replica.settled sound past (omega arith);
  is = told_is l m said it past is;
}

pub promise_told : (l : LockedHeld) (c : List (ℕ × ℕ)) (ops : List Op) → WasAnswered l (tell c) (operations ops)
    → IsTold l (λ n. untold c (take n l.replica.list)) ops
promise_told l c ops w =
    let step = w.entered.makes.makes.step in
    let same = ap (λ s. take s.held.settled s.held.list) step.1 in
    told_then l w.entered.after (untold c) ops w.sound (then_past l (tell c) (operations ops) w) (step.0 ∙ ap (untold c) (sym same))

pub promise_counted : (l : LockedHeld) (c : List (ℕ × ℕ)) → WasAnswered l have (clock c) → IsTold l (λ n. clock_of (take n l.replica.list)) c
promise_counted l c w =
    let step = w.entered.makes.makes.step in
    let same = ap (λ s. take s.held.settled s.held.list) step.1 in
    told_then l w.entered.after clock_of c w.sound (then_past l have (clock c) w) (step.0 ∙ ap clock_of (sym same))
