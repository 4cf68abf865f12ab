-- New characters don't come under marks that end just after a character in front of them.
use Rattle.std.proofs.Common.{subst, ◌≡◌, ℕ, ◌+◌, ◌*◌, ◌≤◌, ◌<◌, true, false, ◌&&◌, ◌⊎◌, inl, inr, List, [], ◌∷◌, ◌++◌, length, Option, Some, None}
use Rattle.std.proofs.Common.{Contains, arith, ap, ◌∙◌, sym}
use Rattle.std.specs.Prelude.{◌==◌, nat_lt, nat_le}
use Rattle.std.specs.List.{cons_option}
use Rattle.std.proofs.lemmas.Bool.{cases_Bool, or_parts, or_left, or_right, and_from, and_right, le-ltb, leb-true, both_ways, false≢true}
use Rattle.std.proofs.lemmas.List.Folds.{list_any-append}
use Rattle.op_ids.specs.Id.{Id, is_same}
use Rattle.op_model.specs.declared.op.Op.{Op}
use Rattle.op_model.specs.declared.op.Body.{Body}
use Rattle.op_model.specs.declared.op.Body.TheVariants.{Insert, Remove, AddMark, RemoveMark}
use Rattle.op_model.specs.declared.anchor.Anchor.TheVariants.{After}
use Rattle.op_model.specs.declared.anchor.End.{End}
use Rattle.op_model.specs.declared.anchor.End.TheVariants as end
use Rattle.op_model.specs.declared.character.Character.{Character}
use Rattle.op_model.specs.declared.marking.Marking.{Marking}
use Rattle.op_model.specs.declared.edit.Edit.{Edit}
use Rattle.op_model.specs.declared.edit.Change.{Change}
use Rattle.op_model.specs.declared.edit.Change.TheVariants as change
use Rattle.op_model.specs.Walk.{walk}
use Rattle.op_model.specs.Text.{visible}
use Rattle.op_model.specs.Marks.{marking_of, markings}
use Rattle.op_model.specs.Places.{index_of, start_place, end_place, covers}
use Rattle.op_model.specs.Causality.{clock_of, is_within_limits, IsCausallyClosed}
use Rattle.op_model.specs.Made.{is_end_after, is_marking_up_to, ends_after, origin_of, greatest_counter, numbered, bodies_of, is_inside, made}
use Rattle.op_model.specs.Placing.{has_id, FitInTurn, IsOrderly}
use Rattle.model_laws.specs.Changed.{IsJustBefore, EndedMarksStay}
use Rattle.model_laws.proofs.Ids.{same_itself, equal_same}
use Rattle.model_laws.proofs.Closed.{closed_orderly}
use Rattle.model_laws.proofs.Chosen.{Has, has_from_contains}
use Rattle.model_laws.proofs.Makes.{made_fit_in_turn}
use Rattle.model_laws.proofs.Typed.{IsCursor, cursor_of, walk_typed}

-- where a marking ends, or else here
abbrev stop_or : End → Option Marking → End
stop_or stop None = stop
stop_or stop (Some m) = m.end

has_cases : (o : Option Marking) (ms : List Marking) (m : Marking) → Has (cons_option o ms) m
    → (o ≡ Some m) ⊎ Has ms m
has_cases None ms m h = inr h
has_cases (Some x) ms m (inl e) = inl (ap Some e)
has_cases (Some x) ms m (inr h) = inr h

ends_here : (opid id : Id) (b : Body) (m : Marking) → marking_of opid b ≡ Some m → m.end ≡ end.To (After id)
    → is_marking_up_to id b ≡ true
ends_here opid id (Insert origin value) m e f = let g : ⊥ = cc in absurd g
ends_here opid id (Remove target) m e f = let g : ⊥ = cc in absurd g
ends_here opid id (AddMark mark start stop) m e f =
    let g : stop ≡ m.end = ap (λ o. stop_or stop o) e in ap (λ x. is_end_after id x) (g ∙ f) ∙ same_itself id
ends_here opid id (RemoveMark key start stop) m e f =
    let g : stop ≡ m.end = ap (λ o. stop_or stop o) e in ap (λ x. is_end_after id x) (g ∙ f) ∙ same_itself id

-- a mark operation of the document that ends just after a character is known to
ends_found : (ops : List Op) (doc : ℕ) (m : Marking) (id : Id) → Has (markings ops doc) m → m.end ≡ end.To (After id)
    → ends_after ops doc id ≡ true
ends_found [] doc m id h e = absurd h
ends_found (op ∷ ops) doc m id h e =
    elim (cases_Bool (op.doc == doc)) [
      | inl d ↦ elim (has_cases (marking_of op.id op.body) (markings ops doc) m (rw d at h)) [
        | inl f ↦ or_left (op.doc == doc && is_marking_up_to id op.body) (ends_after ops doc id) (and_from (op.doc == doc) (is_marking_up_to id op.body) d (ends_here op.id id op.body m f e))
        | inr k ↦ or_right (op.doc == doc && is_marking_up_to id op.body) (ends_after ops doc id) (ends_found ops doc m id k e)
      ]
      | inr d ↦ or_right (op.doc == doc && is_marking_up_to id op.body) (ends_after ops doc id) (ends_found ops doc m id (rw d at h) e)
    ]

pub index_in_front : (front rest : List Character) (id : Id) → has_id front id ≡ true
    → index_of id (front ++ rest) < length front
index_in_front [] rest id h = absurd (false≢true h)
index_in_front (c ∷ front) rest id h =
    elim (cases_Bool (is_same c.id id)) [
      | inl e ↦ rw e (omega arith)
      | inr e ↦ rw e (omega (arith, index_in_front front rest id (rw e at h)))
    ]

-- a character that isn't in a front stands behind it
pub stands_behind : (f other front rest : List Character) (c : Character) → f ++ other ≡ front ++ c ∷ rest
    → has_id f c.id ≡ false → length f ≤ length front
stands_behind [] other front rest c e n = omega arith
stands_behind (x ∷ f) other [] rest c e n =
    let g : x ≡ c = cc in
    absurd (both_ways (has_id (x ∷ f) c.id) n (or_left (is_same x.id c.id) (has_id f c.id) (equal_same x.id c.id (ap (λ y. y.id) g))))
stands_behind (x ∷ f) other (y ∷ front) rest c e n =
    let g : f ++ other ≡ front ++ c ∷ rest = cc in
    let k = or_parts (is_same x.id c.id) (has_id f c.id) n in
    omega (arith, stands_behind f other front rest c g k.1)

not_covered : (w : List Character) (k : ℕ) (m : Marking) (id : Id) → m.end ≡ end.To (After id) → index_of id w < k
    → covers w k m ≡ false
not_covered w k m id e l =
    and_right (nat_le (start_place w m.start) (2 * k + 1)) (nat_lt (2 * k + 1) (end_place w m.end))
    (ap (λ x. nat_lt (2 * k + 1) (end_place w x)) e ∙ le-ltb (2 * k + 1) (2 * index_of id w + 2) (omega arith))

-- a new character behind a front that has the end of a mark isn't covered by it
new_not_covered : (w old : List Character) (f new g : List Character) (front rest : List Character) (c : Character) (m : Marking) (id : Id)
    → old ≡ f ++ g → w ≡ f ++ (new ++ g) → w ≡ front ++ c ∷ rest → has_id old c.id ≡ false → has_id f id ≡ true
    → m.end ≡ end.To (After id) → covers w (length front) m ≡ false
new_not_covered w old f new g front rest c m id o e p n h q =
    let k = or_parts (has_id f c.id) (has_id g c.id) (sym (list_any-append (λ x. is_same x.id c.id) f g) ∙ ap (λ xs. has_id xs c.id) (sym o) ∙ n) in
    let l : length f ≤ length front = stands_behind f (new ++ g) front rest c (sym e ∙ p) k.0 in
    let i : index_of id w < length f = rw (ap (λ xs. index_of id xs) e) (index_in_front f (new ++ g) id h) in
    not_covered w (length front) m id q (omega arith)

ended_in_front : (ops : List Op) (doc at : ℕ) (front rest : List Character) (m : Marking) (id : Id)
    → IsCursor ops doc at front rest
    → Contains (markings ops doc) m → m.end ≡ end.To (After id) → IsJustBefore ops doc at id → has_id front id ≡ true
ended_in_front ops doc at front rest m id k h e (inl t) = k.ended id (ends_found ops doc m id (has_from_contains (markings ops doc) m h) e) t
ended_in_front ops doc at front rest m id k h e (inr v) = k.shown_last id v

-- a mark that ends just before the place of an insert covers none of the new characters
insert_not_covered : (ops : List Op) (replica doc : ℕ) (token : Option ℕ) (at : ℕ) (added : List ℕ)
    → IsOrderly ops doc → at ≤ length (visible ops doc)
    → FitInTurn ops doc (numbered replica doc token (greatest_counter ops + 1) (clock_of ops) (bodies_of ops replica doc (change.Insert at added)))
    → EndedMarksStay ops doc at (numbered replica doc token (greatest_counter ops + 1) (clock_of ops) (bodies_of ops replica doc (change.Insert at added)))
insert_not_covered ops replica doc token at added h l f = λ m id front rest c k e b p n.
    let (g, r, q) = cursor_of ops doc at l in
    let (new, w) = walk_typed added ops replica doc token (greatest_counter ops + 1) (clock_of ops) (origin_of ops doc at) g r h f (omega arith) q.whole q.last in
    new_not_covered (walk (ops ++ numbered replica doc token (greatest_counter ops + 1) (clock_of ops) (bodies_of ops replica doc (change.Insert at added))) doc) (walk ops doc)
    g new r front rest c m id q.whole w p n (ended_in_front ops doc at g r m id q k e b) e

-- the same of a change that is known to be an insert
change_not_covered : (ops : List Op) (replica doc : ℕ) (token : Option ℕ) (at : ℕ) (added : List ℕ) (x : Change)
    → change.Insert at added ≡ x → IsOrderly ops doc → at ≤ length (visible ops doc)
    → FitInTurn ops doc (numbered replica doc token (greatest_counter ops + 1) (clock_of ops) (bodies_of ops replica doc x))
    → EndedMarksStay ops doc at (numbered replica doc token (greatest_counter ops + 1) (clock_of ops) (bodies_of ops replica doc x))
change_not_covered ops replica doc token at added x s h l = subst
    (λ y. FitInTurn ops doc (numbered replica doc token (greatest_counter ops + 1) (clock_of ops) (bodies_of ops replica doc y))
    → EndedMarksStay ops doc at (numbered replica doc token (greatest_counter ops + 1) (clock_of ops) (bodies_of ops replica doc y)))
    s (insert_not_covered ops replica doc token at added h l)

-- the same of an edit, in an orderly list
pub orderly_not_covered : (ops : List Op) (replica : ℕ) (e : Edit) (at : ℕ) (added : List ℕ)
    → IsOrderly ops e.doc → e.change ≡ change.Insert at added → is_inside (length (visible ops e.doc)) e.change ≡ true
    → EndedMarksStay ops e.doc at (made ops replica e)
orderly_not_covered ops replica e at added h s i =
    change_not_covered ops replica e.doc e.token at added e.change (sym s) h
    (leb-true at (length (visible ops e.doc)) (ap (λ y. is_inside (length (visible ops e.doc)) y) (sym s) ∙ i))
    (made_fit_in_turn ops replica e)

-- the same of an edit, in a causally closed list, which is orderly
pub made_not_covered : (ops : List Op) (replica : ℕ) (e : Edit) (at : ℕ) (added : List ℕ) (m : Marking) (id : Id) (front rest : List Character) (c : Character)
    → IsCausallyClosed ops → e.change ≡ change.Insert at added → is_inside (length (visible ops e.doc)) e.change ≡ true
    → is_within_limits (ops ++ made ops replica e) ≡ true
    → Contains (markings ops e.doc) m → m.end ≡ end.To (After id) → IsJustBefore ops e.doc at id
    → walk (ops ++ made ops replica e) e.doc ≡ front ++ c ∷ rest → has_id (walk ops e.doc) c.id ≡ false
    → covers (walk (ops ++ made ops replica e) e.doc) (length front) m ≡ false
made_not_covered ops replica e at added m id front rest c h s i l =
    orderly_not_covered ops replica e at added (closed_orderly ops e.doc h) s i m id front rest c
