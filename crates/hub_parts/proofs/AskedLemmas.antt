-- Changes at places that last, one after another.
use Rattle.std.proofs.Common.{◌≡◌, ◌∙◌, ℕ, ◌+◌, ◌<◌, Bool, true, false, cond, ◌&&◌, Some, None, is_some, is_none, List, [], ◌∷◌}
use Rattle.std.proofs.Common.{◌++◌, length, Option, refl, sym, drop, get_or, append_assoc}
use Rattle.std.proofs.lemmas.List.{drop-drop, drop_more}
use Rattle.op_model.specs.declared.edit.Change.{Change}
use Rattle.op_model.specs.declared.lasting.Lasting.{Lasting}
use Rattle.placed_edits.specs.declared.spots.Spots.{Spots}
use Rattle.op_model.specs.Held.{ReplicaHeld}
use Rattle.op_model.specs.Machine.{known_ticket, Ticket}
use Rattle.placed_edits.specs.Placed.{are_placed, asked_at, located, located_in_turn, spots_at, spots_of, Placed}
use Rattle.hub_parts.specs.Asked.{asked_now, looks_up}

-- the next one, after those that are done
pub next_located : (at : Lasting → Option ℕ) (whole done others : List Change) (spots : List Spots) (i : ℕ) (c x : Change)
    → i < length others → c ≡ get_or others i c → x ≡ located at done c (spots_at (i + 1) spots)
    → whole ≡ done ++ located_in_turn at done (drop i others) (drop (i + 1) spots)
    → whole ≡ (done ++ x ∷ []) ++ located_in_turn at (done ++ x ∷ []) (drop (i + 1) others) (drop (i + 1 + 1) spots)
next_located at whole done others spots i c x there item made so_far =
    let left = rw (drop_more others i c there, ← item, ← made, drop-drop 1 (i + 1) spots) at so_far in
    left ∙ sym (append_assoc done (x ∷ []) (located_in_turn at (done ++ x ∷ []) (drop (i + 1) others) (drop (i + 1 + 1) spots)))

-- as many are made as there are
pub length_located : (at : Lasting → Option ℕ) (done cs : List Change) (spots : List Spots) → length (located_in_turn at done cs spots) ≡ length cs
length_located at done [] spots = refl
length_located at done (c ∷ cs) spots =
    rw (length_located at (done ++ located at done c (spots_of spots) ∷ []) cs (drop 1 spots)) refl

-- the token of an edit is the same by numbers
known_by : (b : Bool) (h : ReplicaHeld) (p : Placed) → known_ticket h (cond b (asked_at h.list p) p.asked) ≡ known_ticket h p.asked
known_by true h p = refl
known_by false h p = refl

pub same_token : (h : ReplicaHeld) (p : Placed) → known_ticket h (asked_now h p) ≡ known_ticket h p.asked
same_token h p = known_by (looks_up h p) h p

both : (a b : Bool) → a ≡ true → b ≡ true → (a && b) ≡ true
both true true first second = refl
both false b first second = absurd (cc)
both true false first second = absurd (cc)

no_ticket : (t : Option Ticket) → is_some t ≡ false → is_none t ≡ true
no_ticket None is = refl
no_ticket (Some t) is = absurd (cc)

-- places that are there, of an edit that wasn't made before, are looked up
pub looked_up : (h : ReplicaHeld) (p : Placed) → are_placed p.spots ≡ true → is_some (known_ticket h p.asked) ≡ false → looks_up h p ≡ true
looked_up h p placed new = both (are_placed p.spots) (is_none (known_ticket h p.asked)) placed (no_ticket (known_ticket h p.asked) new)

pub asked_by_places : (h : ReplicaHeld) (p : Placed) → looks_up h p ≡ true → asked_now h p ≡ asked_at h.list p
asked_by_places h p is = rw is refl

-- an edit by numbers alone asks for its own action
pub asked_by_numbers : (h : ReplicaHeld) (p : Placed) → are_placed p.spots ≡ false → asked_now h p ≡ p.asked
asked_by_numbers h p alone = rw alone refl

a_ticket : (t : Option Ticket) → is_some t ≡ true → is_none t ≡ false
a_ticket (Some t) is = refl
a_ticket None is = absurd (cc)

never_both : (a b : Bool) → b ≡ false → (a && b) ≡ false
never_both true b is = is
never_both false b is = refl

-- and so does one that was made before
pub asked_again : (h : ReplicaHeld) (p : Placed) → is_some (known_ticket h p.asked) ≡ true → asked_now h p ≡ p.asked
asked_again h p known = rw (never_both (are_placed p.spots) (is_none (known_ticket h p.asked)) (a_ticket (known_ticket h p.asked) known)) refl
