-- An edit that was made before is answered as it was, and adds nothing.
use Rattle.std.proofs.Common.{◌≡◌, ◌≢◌, ℕ, ◌+◌, true, List, [], ◌∷◌, ◌++◌, length, Some, arith, ap, refl, sym, ◌∙◌}
use Rattle.std.proofs.Common.{append_assoc, length-append}
use Rattle.std.specs.Option.{option_map}
use Rattle.std.proofs.lemmas.Bool.Decides.{nat_tests}
use Rattle.op_ids.specs.Clock.{advanced}
use Rattle.op_model.specs.declared.op.Op.{Op}
use Rattle.op_model.specs.declared.op.Body.{Body}
use Rattle.op_model.specs.Actions.{Asked, made_by_action}
use Rattle.op_model.specs.Causality.{clock_of}
use Rattle.op_model.specs.Text.{rev}
use Rattle.op_model.specs.Made.{numbered, greatest_counter}
use Rattle.op_model.specs.Held.{ReplicaHeld, with_edit}
use Rattle.op_model.specs.Tokens.{carries, last_of}
use Rattle.op_model.specs.Machine.{State, Ticket, ticket, refused, ticket_of, ticket_behind, token_ticket, known_ticket}
use Rattle.op_model.specs.Machine.{edit_answer}
use Rattle.model_laws.specs.Acting.{bodies_in_turn}
use Rattle.model_laws.proofs.InTurn.{in_turn_numbered}
use Rattle.model_laws.proofs.LastOf.{last_of-here}
use Rattle.model_laws.proofs.Tickets.{token_known, edit_cases, was_made, is_new}
use Rattle.world_law.specs.Tokens.{IsAnsweredAsItWas, IsAnsweredFromThenOn}

known_answer : (s : State) (e : Asked) (token : ℕ) (t : Ticket) → e.token ≡ Some token → token_ticket s.held token ≡ Some t
    → known_ticket s.held e ≡ Some t
known_answer s e token t named k = rw named k

pub answered_as_it_was : IsAnsweredAsItWas
answered_as_it_was s next session e (ticket u) token t (named, k) (is, at) =
    let due : edit_answer s e ≡ ticket t = rw (known_answer s e token t named k) refl in
    let same : u ≡ t = cc in
    let known = token_known s.held token t k in
    (ap ticket same, rw known.known at (rw same at at))
answered_as_it_was s next session e (refused n) token t (named, k) (is, at) =
    let known = token_known s.held token t k in
    let wants = rw (known_answer s e token t named k) at is in
    let never : ⊥ = cc in
    absurd never
answered_as_it_was s next session e answer token t named k = absurd k

-- the last of an edit's operations is the last that carries its token
record IsLast (replica doc token : ℕ) (ops : List Op) : Type 0 where
  pub before : List Op
  pub op : Op
  pub found : last_of (carries replica token) ops ≡ Some (before, op)
  pub whole : before ++ op ∷ [] ≡ ops
  pub of_doc : op.doc ≡ doc

carries_own : (op : Op) (replica token : ℕ) → op.id.replica ≡ replica → op.token ≡ Some token → carries replica token op ≡ true
carries_own op replica token own is = rw (own, is) (grind (arith, nat_tests))

last_made : (ops : List Op) (replica doc token counter : ℕ) (clock : List (ℕ × ℕ)) (b : Body) (bs : List Body)
    → IsLast replica doc token (ops ++ numbered replica doc (Some token) counter clock (b ∷ bs))
last_made ops replica doc token counter clock b [] =
    let op : Op = record { id = record { counter = counter; replica = replica }; doc = doc; token = Some token; deps = clock; body = b } in
    record { before = ops; op = op; found = last_of-here (carries replica token) ops op (carries_own op replica token refl refl); whole = refl; of_doc = refl }
last_made ops replica doc token counter clock b (c ∷ bs) =
    let op : Op = record { id = record { counter = counter; replica = replica }; doc = doc; token = Some token; deps = clock; body = b } in
    let rest = numbered replica doc (Some token) (counter + 1) (advanced clock replica) (c ∷ bs) in
    rw (← append_assoc ops (op ∷ []) rest) (last_made (ops ++ op ∷ []) replica doc token (counter + 1) (advanced clock replica) c bs)

last_of_bodies : (ops : List Op) (replica doc token counter : ℕ) (clock : List (ℕ × ℕ)) (bs : List Body)
    → numbered replica doc (Some token) counter clock bs ≢ [] → IsLast replica doc token (ops ++ numbered replica doc (Some token) counter clock bs)
last_of_bodies ops replica doc token counter clock [] some = absurd (some refl)
last_of_bodies ops replica doc token counter clock (b ∷ bs) some = last_made ops replica doc token counter clock b bs

with_ticket : (ops : List Op) (replica doc token : ℕ) (last : IsLast replica doc token ops)
    → option_map ticket_behind (last_of (carries replica token) ops) ≡ Some (record (ticket_of ops doc) { known = true })
with_ticket ops replica doc token last =
    let long : length last.before + 1 ≡ length ops = sym (length-append last.before (last.op ∷ [])) ∙ ap length last.whole in
    let count : rev (last.before ++ last.op ∷ []) last.op.doc ≡ rev ops doc = rw (last.whole, last.of_doc) refl in
    rw last.found (rw (long, count) refl)

made_ticket : (h : ReplicaHeld) (session : ℕ) (e : Asked) (token : ℕ) → e.token ≡ Some token → made_by_action h.list h.replica e ≢ []
    → token_ticket (with_edit h session e) token ≡ Some (record (ticket_of (h.list ++ made_by_action h.list h.replica e) e.doc) { known = true })
made_ticket h session e token named some =
    let counter = greatest_counter h.list + 1 in
    let bodies = bodies_in_turn h.list h.replica e.doc e.token e.changes in
    let all : made_by_action h.list h.replica e ≡ numbered h.replica e.doc (Some token) counter (clock_of h.list) bodies =
    in_turn_numbered h.list h.replica e.doc e.token e.changes ∙ ap (λ t. numbered h.replica e.doc t counter (clock_of h.list) bodies) named in
    let last = last_of_bodies h.list h.replica e.doc token counter (clock_of h.list) bodies (rw all at some) in
    with_ticket (h.list ++ made_by_action h.list h.replica e) h.replica e.doc token (rw all last)

pub answered_from_then_on : IsAnsweredFromThenOn
answered_from_then_on s next session e token t named some (is, at) =
    elim (edit_cases s e t is) [
      | was_made k found ↦
          let same : next ≡ s = rw found.known at at in
          let ticket_is : token_ticket s.held token ≡ Some t = rw named at k in
          let flag = found.known in
          rw same (rw ticket_is (rw flag refl))
      | is_new k answer due ↦ rw at (rw due (made_ticket s.held session e token named some))
    ]
