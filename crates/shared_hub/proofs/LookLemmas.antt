-- What a look at settled operations leaves of a session's book.
use Rattle.std.proofs.Common.{◌≡◌, ℕ, zero, suc, ◌+◌, ◌<◌, ◌≤◌, Bool, true, false, nat_lt, List, [], ◌∷◌, Some, get_or, refl, ap, ◌∙◌, arith}
use Rattle.std.proofs.lemmas.Bool.Decides.{nat_tests}
use Rattle.std.specs.Prelude.{slice_get}
use Rattle.op_model.specs.declared.op.Op.{Op}
use Rattle.op_list.specs.declared.head.OpHead.{OpHead}
use Rattle.op_list.specs.Heads.{heads}
use Rattle.shared_hub.specs.WatchingSeveral.{WatchHeld, is_among, is_watched}

-- the document of an operation, by its head
doc_of : (list : List Op) (i : ℕ) (op : Op) (head : OpHead) → slice_get list i ≡ Some op → head ≡ get_or (heads list) i head → head.doc ≡ op.doc
doc_of [] i op head there is = let never : ⊥ = cc in absurd never
doc_of (o ∷ list) zero op head there is = let same : o ≡ op = cc in ap (λ (h : OpHead). h.doc) is ∙ ap (λ (x : Op). x.doc) same
doc_of (o ∷ list) (suc i) op head there is = doc_of list i op head there is

-- all documents that were due still are, and so are those that are watched and have an operation of these
pub record HasNoted (old new : WatchHeld) (list : List Op) (i : ℕ) : Type 0 where
  pub docs : new.docs ≡ old.docs
  pub looked : new.looked ≡ old.looked
  pub kept : (doc : ℕ) → is_among old.due doc ≡ true → is_among new.due doc ≡ true
  pub noted : (j : ℕ) (op : Op) → slice_get list j ≡ Some op → old.looked ≤ j → j < i → is_watched old.docs op.doc ≡ true
      → is_among new.due op.doc ≡ true

-- one more operation
pub one_more : (old between new : WatchHeld) (list : List Op) (i : ℕ) (head : OpHead) → head ≡ get_or (heads list) i head
    → HasNoted old between list i
    → (is_watched between.docs head.doc ≡ true → is_among new.due head.doc ≡ true)
    → ((doc : ℕ) → is_among between.due doc ≡ true → is_among new.due doc ≡ true)
    → new.docs ≡ between.docs → new.looked ≡ between.looked
    → HasNoted old new list (i + 1)
one_more old between new list i head is so_far this others docs looked = record {
  docs = docs ∙ so_far.docs;
  looked = looked ∙ so_far.looked;
  kept = λ doc due. others doc (so_far.kept doc due);
  noted = λ j op there begin below watched. by_place j op (nat_lt j i) refl there begin below watched;
}
  where
    by_place : (j : ℕ) (op : Op) (before : Bool) → nat_lt j i ≡ before → slice_get list j ≡ Some op → old.looked ≤ j → j < i + 1
        → is_watched old.docs op.doc ≡ true → is_among new.due op.doc ≡ true
    by_place j op true place there begin below watched =
        let earlier : j < i = grind (arith, nat_tests, place) in others op.doc (so_far.noted j op there begin earlier watched)
    by_place j op false place there begin below watched =
        let last : j ≡ i = grind (arith, nat_tests, place, below) in
        let doc : head.doc ≡ op.doc = doc_of list i op head (rw (← last) there) is in
        rw (← doc) (this (rw (so_far.docs, doc) watched))
