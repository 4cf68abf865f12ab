-- A ticket that the machine gives.
use Rattle.std.proofs.Common.{◌≡◌, ℕ, ◌≤◌, false, length, ap, ◌∙◌, sym, arith}
use Rattle.op_model.specs.Actions.{Asked}
use Rattle.op_model.specs.Machine.{State, Ticket, ticket, EditStep}
use Rattle.model_laws.proofs.Tickets.{edit_cases, was_made, is_new}

-- the ticket of a new edit ends where the list ends
pub ticket_ends : (s next : State) (session : ℕ) (e : Asked) (t : Ticket) → EditStep s session e (ticket t) next → t.known ≡ false
    → t.end ≡ length next.held.list
ticket_ends s next session e t (answer, is) new =
    elim (edit_cases s e t answer) [
      | was_made k found ↦ let known = found.known in let never : ⊥ = cc in absurd never
      | is_new k given due ↦ let made_is = rw new at is in ap (λ t. t.end) due ∙ ap (λ state. length state.held.list) (sym made_is)
    ]

-- and each one within it
pub ticket_within : (s next : State) (session : ℕ) (e : Asked) (t : Ticket) → EditStep s session e (ticket t) next → t.end ≤ length next.held.list
ticket_within s next session e t (answer, is) =
    elim (edit_cases s e t answer) [
      | was_made k found ↦ let same : next ≡ s = rw found.known at is in rw same found.end
      | is_new k given due ↦
          let same = ticket_ends s next session e t (answer, is) (ap (λ t. t.known) due) in omega (arith, same)
    ]
