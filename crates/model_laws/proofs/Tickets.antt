-- What an edit's ticket is: that of an edit that was made before, or of a new one.
use Rattle.std.proofs.Common.{◌≡◌, ℕ, ◌+◌, ◌<◌, ◌≤◌, ◌⊎◌, inl, inr, Bool, true, false, List, ◌++◌, length, Option, Some, None, arith, ap, refl, sym}
use Rattle.std.specs.Prelude.{if◌then◌else◌}
use Rattle.std.specs.Option.{option_map, option_and_then}
use Rattle.op_model.specs.declared.op.Op.{Op}
use Rattle.op_model.specs.Actions.{made_by_action, refusal_of, Asked}
use Rattle.op_model.specs.Held.{ReplicaHeld}
use Rattle.op_model.specs.Machine.{State, Answer, Ticket, ticket, ticket_of, applied, refused, has_places, has_record_room, edit_length, with_room}
use Rattle.op_model.specs.Machine.{ticket_behind, token_ticket, known_ticket, unless_known, new_edit_alone, new_edit_answer, edit_answer, edit_answer_unless}
use Rattle.op_model.specs.Tokens.{carries, last_of}
use Rattle.model_laws.proofs.LastOf.{last_of-within}

ticket_by_places : (places : Bool) (t due : Ticket) → (if places then ticket due else refused 10) ≡ ticket t → t ≡ due
ticket_by_places true t due e = cc
ticket_by_places false t due e = let never : ⊥ = cc in absurd never

ticket_by_cause : (h : ReplicaHeld) (e : Asked) (cause : Option ℕ) (t : Ticket)
    → edit_answer_unless h e cause ≡ ticket t → t ≡ ticket_of (h.list ++ made_by_action h.list h.replica e) e.doc
ticket_by_cause h e (Some m) t is = let never : ⊥ = cc in absurd never
ticket_by_cause h e None t is = ticket_by_places (has_places h) t _ is

ticket_by_telling : (told room : Bool) (answer : Answer) (t due : Ticket) → (answer ≡ ticket t → t ≡ due)
    → (if told then refused 9 else with_room room answer) ≡ ticket t → t ≡ due
ticket_by_telling true room answer t due other is = let never : ⊥ = cc in absurd never
ticket_by_telling false true answer t due other is = other is
ticket_by_telling false false (ticket u) t due other is = let never : ⊥ = cc in absurd never
ticket_by_telling false false applied t due other is = let never : ⊥ = cc in absurd never
ticket_by_telling false false answer t due other is = other is

-- a new edit's ticket is of the list with what it makes
pub new_ticket : (s : State) (e : Asked) (t : Ticket) → new_edit_answer s e ≡ ticket t
    → t ≡ ticket_of (s.held.list ++ made_by_action s.held.list s.held.replica e) e.doc
new_ticket s e t is =
    ticket_by_telling s.failure_told (has_record_room s (edit_length s.held e)) (new_edit_alone s.held e) t _
    (ticket_by_cause s.held e (refusal_of s.held.list s.held.replica e) t) is

-- a ticket of an edit that was made before
pub record IsKnown (h : ReplicaHeld) (t : Ticket) : Type 0 where
  pub known : t.known ≡ true
  pub end : t.end ≤ length h.list

known_behind : (h : ReplicaHeld) (t : Ticket) (found : Option (List Op × Op)) (is : Op → Bool) → last_of is h.list ≡ found
    → option_map ticket_behind found ≡ Some t → IsKnown h t
known_behind h t None is e k = let never : ⊥ = cc in absurd never
known_behind h t (Some p) is e k =
    let shorter = last_of-within is h.list p e in
    let same : ticket_behind p ≡ t = cc in
    rw (← same) (record { known = refl; end = omega arith })

pub token_known : (h : ReplicaHeld) (token : ℕ) (t : Ticket) → token_ticket h token ≡ Some t → IsKnown h t
token_known h token t k = known_behind h t (last_of (carries h.replica token) h.list) (carries h.replica token) refl k

known_by : (h : ReplicaHeld) (token : Option ℕ) (t : Ticket) → option_and_then (token_ticket h) token ≡ Some t → IsKnown h t
known_by h None t k = let never : ⊥ = cc in absurd never
known_by h (Some token) t k = token_known h token t k

pub known_is : (h : ReplicaHeld) (e : Asked) (t : Ticket) → known_ticket h e ≡ Some t → IsKnown h t
known_is h e t k = known_by h e.token t k

-- an edit that is answered a ticket was made before, or is new
pub data IsOfEdit (s : State) (e : Asked) (t : Ticket) : Type 0 where
  was_made : known_ticket s.held e ≡ Some t → IsKnown s.held t → IsOfEdit s e t
  is_new : known_ticket s.held e ≡ None → new_edit_answer s e ≡ ticket t → t ≡ ticket_of (s.held.list ++ made_by_action s.held.list s.held.replica e) e.doc
      → IsOfEdit s e t

by_known : (s : State) (e : Asked) (t : Ticket) (found : Option Ticket) → known_ticket s.held e ≡ found
    → unless_known found (new_edit_answer s e) ≡ ticket t → IsOfEdit s e t
by_known s e t None k is = is_new k is (new_ticket s e t is)
by_known s e t (Some u) k is =
    let same : u ≡ t = cc in
    let found : known_ticket s.held e ≡ Some t = rw (← same) k in
    was_made found (known_is s.held e t found)

pub edit_cases : (s : State) (e : Asked) (t : Ticket) → edit_answer s e ≡ ticket t → IsOfEdit s e t
edit_cases s e t is = by_known s e t (known_ticket s.held e) refl is
