-- A causally closed list is orderly in each document.
use Rattle.std.proofs.Common.{◌≡◌, ℕ, zero, suc, Bool, true, false, ◌&&◌, inl, inr, List, [], ◌∷◌, ◌++◌, Option, Some, None, All, take, filter, arith}
use Rattle.std.proofs.Common.{refl, ◌∙◌}
use Rattle.std.specs.Prelude.{◌==◌, nat_lt}
use Rattle.std.specs.List.{list_any, list_all}
use Rattle.std.proofs.lemmas.Bool.{cases_Bool, or_cases, or_from, or_left, or_right, and_parts, both_ways, false≢true}
use Rattle.std.proofs.lemmas.Bool.Decides.{nat_tests}
use Rattle.std.proofs.lemmas.List.Elements.{All-nil, All-cons}
use Rattle.op_ids.specs.Id.{Id, is_below, is_same}
use Rattle.op_model.specs.declared.op.Op.{Op}
use Rattle.op_model.specs.declared.op.Body.{Body}
use Rattle.op_model.specs.declared.op.Body.TheVariants.{Insert, Remove, AddMark, RemoveMark}
use Rattle.op_model.specs.declared.character.Character.{Character}
use Rattle.op_model.specs.Characters.{character_of, character_in, with_character, characters}
use Rattle.op_model.specs.Causality.{MayFollow, FollowInTurn, IsCausallyClosed, is_insert, is_covered_insert, is_counted_up, names_inserts, made_by, named_by}
use Rattle.op_model.specs.Walk.{walk}
use Rattle.op_model.specs.Placing.{has_id, has_op_id, placed, Fits, FitInTurn, IsOrderly}
use Rattle.model_laws.proofs.Ids.{below_by_counter}
use Rattle.model_laws.proofs.Ops.{orderly_placed}
use Rattle.model_laws.proofs.Grow.{has_id-in_order, has_id-more}

All-from_test : {X : Type 0} (p : X → Bool) (P : X → Type 0) → ((x : X) → p x ≡ true → P x) → (xs : List X)
    → list_all p xs ≡ true → All P xs
All-from_test p P each [] e = All-nil P
All-from_test p P each (x ∷ xs) e =
    All-cons P x xs (each x (and_parts (p x) (list_all p xs) e).0) (All-from_test p P each xs (and_parts (p x) (list_all p xs) e).1)

any_in_front : {X : Type 0} (p : X → Bool) (n : ℕ) (xs : List X) → list_any p (take n xs) ≡ true
    → list_any p xs ≡ true
any_in_front p zero xs e = absurd (false≢true e)
any_in_front p (suc n) [] e = e
any_in_front p (suc n) (x ∷ xs) e =
    elim (or_cases (p x) (list_any p (take n xs)) e) [
      | inl f ↦ or_left (p x) (list_any p xs) f
      | inr f ↦ or_right (p x) (list_any p xs) (any_in_front p n xs f)
    ]

any_in_filter : {X : Type 0} (p q : X → Bool) (xs : List X) → list_any p (filter q xs) ≡ true → list_any p xs ≡ true
any_in_filter p q [] e = e
any_in_filter p q (x ∷ xs) e =
    elim (cases_Bool (q x)) [
      | inl f ↦ elim (or_cases (p x) (list_any p (filter q xs)) (rw f at e)) [
        | inl g ↦ or_left (p x) (list_any p xs) g
        | inr g ↦ or_right (p x) (list_any p xs) (any_in_filter p q xs g)
      ]
      | inr f ↦ or_right (p x) (list_any p xs) (any_in_filter p q xs (rw f at e))
    ]

-- where all of a filter pass, none is found that would be kept and not pass
pub none_found : {X : Type 0} (p q r : X → Bool) → ((x : X) → r x ≡ true → (q x ≡ true) × (p x ≡ false))
    → (xs : List X) → list_all p (filter q xs) ≡ true → list_any r xs ≡ false
none_found p q r says [] e = refl
none_found p q r says (x ∷ xs) e =
    elim (cases_Bool (q x)) [
      | inl f ↦ let k : (p x ≡ true) × (list_all p (filter q xs) ≡ true) = and_parts (p x) (list_all p (filter q xs)) (rw f at e) in
          or_from (r x) (list_any r xs) (elim (cases_Bool (r x)) [ inl g ↦ absurd (both_ways (p x) (says x g).1 k.0) | inr g ↦ g ]) (none_found p q r says xs k.1)
      | inr f ↦ or_from (r x) (list_any r xs) (elim (cases_Bool (r x)) [ inl g ↦ absurd (both_ways (q x) f (says x g).0) | inr g ↦ g ]) (none_found p q r says xs (rw f at e))
    ]

same_means : (a b : Id) → is_same a b ≡ true
    → ((a.replica == b.replica) ≡ true) × (nat_lt a.counter b.counter ≡ false)
unfolding is_same
same_means a b e = (grind (arith, nat_tests), grind (arith, nat_tests))

-- a counter that is greater than those of its replica makes a new id
pub is_new : (ops : List Op) (op : Op) → is_counted_up ops op ≡ true → list_any (λ x. is_same x.id op.id) ops ≡ false
is_new ops op e =
    none_found (λ x. nat_lt x.id.counter op.id.counter) (λ x. x.id.replica == op.id.replica) (λ x. is_same x.id op.id) (λ x f. same_means x.id op.id f) ops e

is_new_in : (ops : List Op) (op : Op) (doc : ℕ) → is_counted_up ops op ≡ true → has_op_id ops doc op.id ≡ false
is_new_in ops op doc e =
    none_found (λ x. nat_lt x.id.counter op.id.counter) (λ x. x.id.replica == op.id.replica) (λ x. x.doc == doc && is_same x.id op.id)
    (λ x f. same_means x.id op.id (and_parts (x.doc == doc) (is_same x.id op.id) f).1) ops e

pub has_id-with : (m : Option Character) (cs : List Character) (id : Id) → has_id cs id ≡ true
    → has_id (with_character m cs) id ≡ true
has_id-with None cs id e = e
has_id-with (Some c) cs id e = has_id-more c cs id e

insert_there : (xid id : Id) (b : Body) (cs : List Character) → is_same xid id ≡ true → is_insert b ≡ true
    → has_id (with_character (character_of xid b) cs) id ≡ true
insert_there xid id (Insert origin value) cs e f =
    has_id-in_order (record { id = xid; origin = origin; value = value }) cs id ∙ or_left (is_same xid id) (has_id cs id) e
insert_there xid id (Remove target) cs e f = absurd (false≢true f)
insert_there xid id (AddMark mark start end) cs e f = absurd (false≢true f)
insert_there xid id (RemoveMark key start end) cs e f = absurd (false≢true f)

abbrev pub is_insert_at : ℕ → Id → Op → Bool
is_insert_at doc id op = is_same op.id id && op.doc == doc && is_insert op.body

pub insert_found : (ops : List Op) (doc : ℕ) (id : Id) → list_any (is_insert_at doc id) ops ≡ true
    → has_id (characters ops doc) id ≡ true
insert_found [] doc id e = absurd (false≢true e)
insert_found (x ∷ ops) doc id e =
    elim (or_cases (is_insert_at doc id x) (list_any (is_insert_at doc id) ops) e) [
      | inl f ↦ let a : ((is_same x.id id && x.doc == doc) ≡ true) × (is_insert x.body ≡ true) = and_parts (is_same x.id id && x.doc == doc) (is_insert x.body) f in
          let b : (is_same x.id id ≡ true) × ((x.doc == doc) ≡ true) = and_parts (is_same x.id id) (x.doc == doc) a.0 in
          let d : (x.doc == doc) ≡ true = b.1 in
          rw d (insert_there x.id id x.body (characters ops doc) b.0 a.1)
      | inr f ↦ has_id-with (character_in doc x) (characters ops doc) id (insert_found ops doc id f)
    ]

covered_found : (ops : List Op) (deps : List (ℕ × ℕ)) (doc : ℕ) (id : Id) → is_covered_insert ops deps doc id ≡ true
    → has_id (characters ops doc) id ≡ true
covered_found ops deps doc id e =
    insert_found ops doc id (any_in_filter (is_insert_at doc id) (λ op. op.id.replica == id.replica) ops
    (any_in_front (is_insert_at doc id) _ (made_by id.replica ops) e))

names_found : (ops : List Op) (doc : ℕ) (op : Op) → names_inserts ops op ≡ true → op.doc ≡ doc
    → All (λ id. (has_id (characters ops doc) id ≡ true) × (is_below id op.id ≡ true)) (named_by op.body)
names_found ops doc op e same = All-from_test (λ id. is_covered_insert ops op.deps op.doc id && nat_lt id.counter op.id.counter)
    (λ id. (has_id (characters ops doc) id ≡ true) × (is_below id op.id ≡ true)) each (named_by op.body) e
  where
    each : (id : Id) → (is_covered_insert ops op.deps op.doc id && nat_lt id.counter op.id.counter) ≡ true
        → (has_id (characters ops doc) id ≡ true) × (is_below id op.id ≡ true)
    each id f = let p : (is_covered_insert ops op.deps op.doc id ≡ true) × (nat_lt id.counter op.id.counter ≡ true) = and_parts (is_covered_insert ops op.deps op.doc id) (nat_lt id.counter op.id.counter) f in
        (rw same at (covered_found ops op.deps op.doc id p.0), below_by_counter id op.id p.1)

-- an operation of the document that counts up, and names inserts of smaller counters, fits it
pub fits_by_tests : (ops : List Op) (doc : ℕ) (op : Op) → is_counted_up ops op ≡ true → names_inserts ops op ≡ true
    → op.doc ≡ doc → Fits ops doc op
fits_by_tests ops doc op counted names same = record {
  same = same;
  names = names_found ops doc op names same;
  fresh = is_new_in ops op doc counted;
}

pub follows_fits : (ops : List Op) (doc : ℕ) (op : Op) → MayFollow ops op → op.doc ≡ doc → Fits ops doc op
follows_fits ops doc op h same = fits_by_tests ops doc op h.counter h.names same

pub fits_in_turn : (before ops : List Op) (doc : ℕ) → FollowInTurn before ops → FitInTurn before doc ops
fits_in_turn before [] doc h = tt
fits_in_turn before (op ∷ ops) doc h = (λ same. follows_fits before doc op h.0 same, fits_in_turn (before ++ op ∷ []) ops doc h.1)

pub closed_orderly : (ops : List Op) (doc : ℕ) → IsCausallyClosed ops → IsOrderly ops doc
closed_orderly ops doc h = fits_in_turn [] ops doc h

pub closed_placed : (ops : List Op) (doc : ℕ) (op : Op) → IsCausallyClosed ops → MayFollow ops op
    → walk (ops ++ op ∷ []) doc ≡ placed (character_in doc op) (walk ops doc)
closed_placed ops doc op h f = orderly_placed ops doc op (closed_orderly ops doc h) (follows_fits ops doc op f)
