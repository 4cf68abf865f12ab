-- Edits at places that last.
use Rattle.std.proofs.Common.{◌≡◌, ℕ, ◌+◌, ◌<◌, nat_le, nat_lt, ◌&&◌, Bool, true, false, ◌||◌, inl, inr, arith, List, [], ◌∷◌}
use Rattle.std.proofs.Common.{◌++◌, drop, Option, Some, None, is_some, option_map, unwrap_or, ap, refl}
use Rattle.std.proofs.lemmas.Bool.Decides.{nat_tests}
use Rattle.op_model.specs.Actions.{Asked}
use Rattle.op_model.specs.declared.edit.Change.{Change}
use Rattle.op_model.specs.declared.edit.Change.TheVariants.{Insert, Delete, Mark, Unmark}
use Rattle.op_model.specs.declared.lasting.Lasting.{Lasting}
use Rattle.op_model.specs.declared.lasting.Neighbour.{Neighbour}
use Rattle.op_model.specs.Made.{is_inside}
use Rattle.placed_edits.specs.declared.moving.TheConstants.{NOWHERE}
use Rattle.placed_edits.specs.declared.spots.Spots.{Spots}
use Rattle.placed_edits.specs.Placed.{are_placed, asked_by, by_numbers, is_placed, located, located_in_turn, moved_through}
use Rattle.placed_edits.specs.Placed.{neighbour_of, no_spots, number_after, IsFor, Placed}

-- a change keeps its numbers where no others are given
keeps_numbers : (c : Change) → by_numbers c None None ≡ c
keeps_numbers (Insert at text) = refl
keeps_numbers (Delete at count) = refl
keeps_numbers (Mark from to mark) = refl
keeps_numbers (Unmark from to key) = refl

neither : (a b : Bool) → (a || b) ≡ false → (a ≡ false) × (b ≡ false)
neither false false is = (refl, refl)
neither false true is = absurd (cc)
neither true b is = absurd (cc)

none_of : {A : Type 0} → (x : Option A) → is_some x ≡ false → x ≡ None
none_of None is = refl
none_of (Some x) is = absurd (cc)

stays : (at : Lasting → Option ℕ) (done : List Change) (c : Change) (s : Spots) → is_placed s ≡ false → located at done c s ≡ c
stays at done c s is =
    let (first, second) = neither (is_some s.from) (is_some s.to) is in
    rw (none_of s.from first, none_of s.to second) (keeps_numbers c)

-- changes without such places are what they are
pub located_alone : (at : Lasting → Option ℕ) (done cs : List Change) (spots : List Spots) → are_placed spots ≡ false
    → located_in_turn at done cs spots ≡ cs
located_alone at done [] spots is = refl
located_alone at done (c ∷ cs) [] is =
    let rest = located_alone at (done ++ located at done c no_spots ∷ []) cs [] refl in rw (rest, stays at done c no_spots refl) refl
located_alone at done (c ∷ cs) (s ∷ ss) is =
    let (here, others) = neither (is_placed s) (are_placed ss) is in
    let rest = located_alone at (done ++ located at done c s ∷ []) cs ss others in rw (rest, stays at done c s here) refl

-- so an edit by numbers alone asks for its own action, whatever the text is
pub asked_alone : (at : Lasting → Option ℕ) (p : Placed) → are_placed p.spots ≡ false → asked_by at p ≡ p.asked
asked_alone at p is = ap (λ cs. record p.asked { changes = cs }) (located_alone at [] p.asked.changes p.spots is)

-- nowhere stays nowhere
moved_nowhere : (side : Neighbour) (done : List Change) → moved_through side done NOWHERE ≡ NOWHERE
moved_nowhere side [] = refl
moved_nowhere side (c ∷ cs) = moved_nowhere side cs

number_nowhere : (at : Lasting → Option ℕ) (done : List Change) (place : Lasting) → at place ≡ None → number_after at done place ≡ NOWHERE
number_nowhere at done place is = rw is (moved_nowhere (neighbour_of place) done)

past : (n a : ℕ) → n < a → nat_le a n ≡ false
past n a less = grind (arith, nat_tests)

-- no stretch of the text begins there, or ends there
from_nowhere : (last n : ℕ) → n < NOWHERE → (nat_lt NOWHERE last && nat_le last n) ≡ false
from_nowhere last n few = grind (arith, nat_tests)

to_nowhere : (first n : ℕ) → n < NOWHERE → (nat_lt first NOWHERE && nat_le NOWHERE n) ≡ false
to_nowhere first n few = grind (arith, nat_tests)

-- a change at a place that isn't there is outside of each text
pub outside : (at : Lasting → Option ℕ) (done : List Change) (c : Change) (s : Spots) (place : Lasting) (n : ℕ) → at place ≡ None → n < NOWHERE
    → IsFor c s place → is_inside n (located at done c s) ≡ false
outside at done (Insert first text) s place n none few is =
    rw (is, number_nowhere at done place none) (past n NOWHERE few)
outside at done (Delete first count) s place n none few is =
    rw (is, number_nowhere at done place none) (past n (NOWHERE + count.value) (omega arith))
outside at done (Mark first last mark) s place n none few (inl is) =
    rw (is, number_nowhere at done place none) (from_nowhere (unwrap_or (option_map (number_after at done) s.to) last) n few)
outside at done (Mark first last mark) s place n none few (inr is) =
    rw (is, number_nowhere at done place none) (to_nowhere (unwrap_or (option_map (number_after at done) s.from) first) n few)
outside at done (Unmark first last key) s place n none few (inl is) =
    rw (is, number_nowhere at done place none) (from_nowhere (unwrap_or (option_map (number_after at done) s.to) last) n few)
outside at done (Unmark first last key) s place n none few (inr is) =
    rw (is, number_nowhere at done place none) (to_nowhere (unwrap_or (option_map (number_after at done) s.from) first) n few)
