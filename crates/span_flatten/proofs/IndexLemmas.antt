-- The mark operations that pass a test, by their indexes.
use Rattle.std.proofs.Common.{◌≡◌, ℕ, zero, suc, ◌+◌, ◌<◌, ◌≤◌, Bool, true, false, not, ◌&&◌, ◌||◌, nat_lt, inl, inr, List, [], ◌∷◌, ◌++◌, length, take}
use Rattle.std.proofs.Common.{get_or, Some, refl, sym, ◌∙◌, ap, arith, append_assoc}
use Rattle.std.specs.Prelude.{◌==◌, filter, slice_get}
use Rattle.std.proofs.lemmas.List.{length-take-le, take_more}
use Rattle.std.proofs.lemmas.Bool.{cases_Bool, cases_lt, cases_order, eq-eqb, ne_eqb, lt-ltb, le-ltb}
use Rattle.op_model.specs.declared.marking.Marking.{Marking}
use Rattle.op_model.specs.Rising.{AllOver, IsUp}
use Rattle.model_laws.proofs.Up.{has, none_over, same_members}
use Rattle.span_flatten.specs.declared.active.Active.{Active}
use Rattle.span_flatten.specs.Sweeping.{indexes, is_from_start, kept, passes, IsActive}
use Rattle.span_flatten.specs.Picking.{picked}
use Rattle.span_flatten.proofs.ActiveLemmas.{active_same, and_false, or_false}

-- all indexes are the first one's, or greater
over_indexes : {X : Type 0} → (p : X → Bool) (n k : ℕ) (ms : List X) → n < k → AllOver n (indexes p k ms)
over_indexes p n k [] less = tt
over_indexes p n k (m ∷ ms) less =
    elim (cases_Bool (p m)) [
      | inl e ↦ rw e (less, over_indexes p n (k + 1) ms (omega arith))
      | inr e ↦ rw e (over_indexes p n (k + 1) ms (omega arith))
    ]

pub up_indexes : {X : Type 0} → (p : X → Bool) (k : ℕ) (ms : List X) → IsUp (indexes p k ms)
up_indexes p k [] = tt
up_indexes p k (m ∷ ms) =
    elim (cases_Bool (p m)) [
      | inl e ↦ rw e (over_indexes p k (k + 1) ms (omega arith), up_indexes p (k + 1) ms)
      | inr e ↦ rw e (up_indexes p (k + 1) ms)
    ]

-- none is below the first one's
none_below : {X : Type 0} → (p : X → Bool) (i k : ℕ) (ms : List X) → i < k → has i (indexes p k ms) ≡ false
none_below p i k ms less = none_over i i (indexes p k ms) (omega arith) (over_indexes p i k ms less)

pub has_indexes : {X : Type 0} → (p : X → Bool) (k : ℕ) (ms : List X) (j : ℕ) → has (k + j) (indexes p k ms) ≡ passes p ms j
has_indexes p k [] j = refl
has_indexes p k (m ∷ ms) zero =
    let same : k + 0 ≡ k = omega arith in
    elim (cases_Bool (p m)) [
      | inl e ↦ rw (same, e, eq-eqb k k refl) refl
      | inr e ↦ rw (same, e) (none_below p k (k + 1) ms (omega arith))
    ]
has_indexes p k (m ∷ ms) (suc j) =
    let same : k + suc j ≡ k + 1 + j = omega arith in
    elim (cases_Bool (p m)) [
      | inl e ↦ rw (same, e, ne_eqb k (k + 1 + j) (omega arith)) (has_indexes p (k + 1) ms j)
      | inr e ↦ rw (same, e) (has_indexes p (k + 1) ms j)
    ]

-- past the last one none passes
pub passes_within : (p : Marking → Bool) (ms : List Marking) (i : ℕ) → length ms ≤ i → passes p ms i ≡ false
passes_within p [] i past = refl
passes_within p (m ∷ ms) zero past = absurd (omega arith)
passes_within p (m ∷ ms) (suc i) past = passes_within p ms i (omega arith)

and_true : (a : Bool) → (a && true) ≡ a
and_true true = refl
and_true false = refl

pub passes_there : (p : Marking → Bool) (ms : List Marking) (i : ℕ) → passes p ms i ≡ (nat_lt i (length ms) && passes p ms i)
passes_there p ms i =
    elim (cases_lt i (length ms)) [
      | inl within ↦ rw (lt-ltb i (length ms) within) refl
      | inr past ↦ rw (le-ltb i (length ms) past) (passes_within p ms i past)
    ]

-- those that pass two tests
pub passes_both : (p q : Marking → Bool) (ms : List Marking) (i : ℕ) → (passes p ms i && not (passes q ms i)) ≡ (nat_lt i (length ms) && (passes p ms i && not (passes q ms i)))
    → passes (λ m. p m && not (q m)) ms i ≡ (nat_lt i (length ms) && (passes p ms i && not (passes q ms i)))
passes_both p q [] i h = sym (none (nat_lt i 0))
  where
    none : (a : Bool) → (a && false) ≡ false
    none true = refl
    none false = refl
passes_both p q (m ∷ ms) zero h = h
passes_both p q (m ∷ ms) (suc i) h =
    let same : nat_lt (suc i) (length (m ∷ ms)) ≡ nat_lt i (length ms) =
    elim (cases_lt i (length ms)) [
      | inl within ↦ lt-ltb (suc i) (suc (length ms)) (omega arith) ∙ sym (lt-ltb i (length ms) within)
      | inr past ↦ le-ltb (suc i) (suc (length ms)) (omega arith) ∙ sym (le-ltb i (length ms) past)
    ] in
    rw same (passes_both p q ms i (rw same at h))

pub both_there : (p q : Marking → Bool) (ms : List Marking) (i : ℕ)
    → (passes p ms i && not (passes q ms i)) ≡ (nat_lt i (length ms) && (passes p ms i && not (passes q ms i)))
both_there p q ms i =
    elim (cases_lt i (length ms)) [
      | inl within ↦ rw (lt-ltb i (length ms) within) refl
      | inr past ↦ rw (le-ltb i (length ms) past, passes_within p ms i past) refl
    ]

get_behind : (front ms : List Marking) (m : Marking) → slice_get (front ++ m ∷ ms) (length front) ≡ Some m
get_behind [] ms m = refl
get_behind (f ∷ front) ms m = get_behind front ms m

picked_indexes : (p : Marking → Bool) (front ms : List Marking) (k : ℕ) → k ≡ length front
    → picked (front ++ ms) (indexes p k ms) ≡ filter p ms
picked_indexes p front [] k long = refl
picked_indexes p front (m ∷ ms) k long =
    let rest = picked_indexes p (front ++ m ∷ []) ms (k + 1) (long_more front) in
    let all : (front ++ m ∷ []) ++ ms ≡ front ++ m ∷ ms = append_assoc front (m ∷ []) ms in
    let tail : picked (front ++ m ∷ ms) (indexes p (k + 1) ms) ≡ filter p ms = rw all at rest in
    let here : slice_get (front ++ m ∷ ms) k ≡ Some m = ap (λ n. slice_get (front ++ m ∷ ms) n) long ∙ get_behind front ms m in
    elim (cases_Bool (p m)) [
      | inl e ↦ rw (e, here) (ap (λ ns. m ∷ ns) tail)
      | inr e ↦ rw e tail
    ]
  where
    more : (fs : List Marking) → length (fs ++ m ∷ []) ≡ length fs + 1
    more [] = refl
    more (f ∷ fs) = let before = more fs in omega arith

    long_more : (fs : List Marking) → k + 1 ≡ length (front ++ m ∷ [])
    long_more fs = let before = more front in omega arith

-- the mark operations that are kept are those that have begun and not ended
pub picked_active : (a : Active) (ms : List Marking) (p q : Marking → Bool) → IsActive a (length ms) (passes p ms) (passes q ms)
    → picked ms (kept a) ≡ filter (λ m. p m && not (q m)) ms
picked_active a ms p q are =
    ap (λ set. picked ms set) (same_members (kept a) (indexes (λ m. p m && not (q m)) 0 ms) (up_indexes (λ f. f) 0 a.in_force.items) (up_indexes (λ m. p m && not (q m)) 0 ms)
    (λ i. are.members i ∙ (sym (passes_both p q ms i (both_there p q ms i))
    ∙ sym (let same : 0 + i ≡ i = omega arith in rw same at (has_indexes (λ m. p m && not (q m)) 0 ms i)))))
    ∙ picked_indexes (λ m. p m && not (q m)) [] ms 0 refl

suc_same : (a b : ℕ) → (suc a == suc b) ≡ (a == b)
suc_same a b =
    elim (cases_order a b) [
      | inl same ↦ eq-eqb (suc a) (suc b) (omega arith) ∙ sym (eq-eqb a b same)
      | inr o ↦ elim o [
        | inl less ↦ ne_eqb (suc a) (suc b) (omega arith) ∙ sym (ne_eqb a b (omega arith))
        | inr more ↦ ne_eqb (suc a) (suc b) (omega arith) ∙ sym (ne_eqb a b (omega arith))
      ]
    ]

-- one more that may pass
passes_more : {X : Type 0} → (p : X → Bool) (ms : List X) (m : X) (j : ℕ) → passes p (ms ++ m ∷ []) j ≡ (passes p ms j || (p m && length ms == j))
passes_more p [] m zero = sym (and_true (p m))
passes_more p [] m (suc j) = rw (ne_eqb 0 (suc j) (omega arith)) (sym (and_false (p m)))
passes_more p (n ∷ ms) m zero = rw (ne_eqb (suc (length ms)) 0 (omega arith)) (sym (ap (λ b. p n || b) (and_false (p m)) ∙ or_false (p n)))
passes_more p (n ∷ ms) m (suc j) = passes_more p ms m j ∙ ap (λ b. passes p ms j || (p m && b)) (sym (suc_same (length ms) j))

-- one more of those so far
pub passes_taken : {X : Type 0} → (p : X → Bool) (ms : List X) (k : ℕ) (m : X) (j : ℕ) → k < length ms → m ≡ get_or ms k m
    → passes p (take (k + 1) ms) j ≡ (passes p (take k ms) j || (p m && k == j))
passes_taken p ms k m j within is_it =
    ap (λ ns. passes p ns j) (take_more ms k m within ∙ ap (λ n. take k ms ++ n ∷ []) (sym is_it))
    ∙ (passes_more p (take k ms) m j ∙ ap (λ n. passes p (take k ms) j || (p m && n == j)) (length-take-le k ms (omega arith)))

-- one more that begins at the start of the text, and one that doesn't
pub active_begun : (a : Active) (ms : List Marking) (k : ℕ) (m : Marking) → k < length ms → m ≡ get_or ms k m → is_from_start m ≡ true
    → IsActive a (length ms) (λ j. passes is_from_start (take k ms) j || k == j) (λ i. false)
    → IsActive a (length ms) (passes is_from_start (take (k + 1) ms)) (λ i. false)
active_begun a ms k m within is_it begins are =
    active_same a (length ms) (λ j. passes is_from_start (take k ms) j || k == j) (λ i. false) (passes is_from_start (take (k + 1) ms)) (λ i. false)
    (λ j. sym (passes_taken is_from_start ms k m j within is_it ∙ ap (λ b. passes is_from_start (take k ms) j || (b && k == j)) begins)) (λ j. refl) are

pub active_not_begun : (a : Active) (ms : List Marking) (k : ℕ) (m : Marking) → k < length ms → m ≡ get_or ms k m → is_from_start m ≡ false
    → IsActive a (length ms) (passes is_from_start (take k ms)) (λ i. false)
    → IsActive a (length ms) (passes is_from_start (take (k + 1) ms)) (λ i. false)
active_not_begun a ms k m within is_it later are =
    active_same a (length ms) (passes is_from_start (take k ms)) (λ i. false) (passes is_from_start (take (k + 1) ms)) (λ i. false)
    (λ j. sym (passes_taken is_from_start ms k m j within is_it ∙ (ap (λ b. passes is_from_start (take k ms) j || (b && k == j)) later
    ∙ or_false (passes is_from_start (take k ms) j)))) (λ j. refl) are
