-- Numbers in rising order: one more among them, and where a search by halves finds that it goes.
use Rattle.std.proofs.Common.{◌≡◌, ℕ, zero, suc, ◌≤◌, ◌<◌, inl, inr, List, [], ◌∷◌, ◌++◌, length, take, drop}
use Rattle.std.proofs.Common.{get_or, Result, Ok, Err, refl, sym, ◌∙◌, ap, arith}
use Rattle.std.specs.List.Sorted.{IsBinarySearchResult}
use Rattle.std.specs.Ordering.{nat_cmp}
use Rattle.std.proofs.lemmas.Bool.{cases_order, eq-eqb, ne_eqb, lt-ltb, le-ltb}
use Rattle.std.proofs.lemmas.List.{get_or_default}
use Rattle.std.proofs.lemmas.List.Sorted.{searched}
use Rattle.op_model.specs.declared.op.Op.{Op}
use Rattle.op_model.specs.Causality.{documents}
use Rattle.op_model.specs.Rising.{AllOver, IsUp, IsPlace}
use Rattle.op_model.specs.Spans.{with_number, rising}

pub over_chain : (n m : ℕ) (ns : List ℕ) → n < m → AllOver m ns → AllOver n ns
over_chain n m [] less over = tt
over_chain n m (k ∷ ns) less over = (let first = over.0 in omega arith, over_chain n m ns less over.1)

pub over_with : (n m : ℕ) (ns : List ℕ) → n < m → AllOver n ns → AllOver n (with_number m ns)
over_with n m [] less over = (less, tt)
over_with n m (k ∷ ns) less over =
    elim (cases_order m k) [
      | inl same ↦ simp (le-ltb m k (omega arith), eq-eqb m k same) over
      | inr o ↦ elim o [
        | inl below ↦ rw (lt-ltb m k below) (less, over)
        | inr above ↦ simp (le-ltb m k (omega arith), ne_eqb m k (omega arith)) (over.0, over_with n m ns less over.1)
      ]
    ]

pub up_with : (m : ℕ) (ns : List ℕ) → IsUp ns → IsUp (with_number m ns)
up_with m [] up = (tt, tt)
up_with m (k ∷ ns) up =
    elim (cases_order m k) [
      | inl same ↦ simp (le-ltb m k (omega arith), eq-eqb m k same) up
      | inr o ↦ elim o [
        | inl below ↦ rw (lt-ltb m k below) ((below, over_chain m k ns below up.0), up)
        | inr above ↦ simp (le-ltb m k (omega arith), ne_eqb m k (omega arith)) (over_with k m ns above up.0, up_with m ns up.1)
      ]
    ]

pub rising_up : (ns : List ℕ) → IsUp (rising ns)
rising_up [] = tt
rising_up (n ∷ ns) = up_with n (rising ns) (rising_up ns)

over_get : (n : ℕ) (ns : List ℕ) (j : ℕ) → AllOver n ns → j < length ns → n < get_or ns j 0
over_get n [] j over here = absurd (omega arith)
over_get n (m ∷ ns) zero over here = over.0
over_get n (m ∷ ns) (suc j) over here = over_get n ns j over.1 (omega arith)

-- a later one isn't smaller
up_get : (ns : List ℕ) (i j : ℕ) → IsUp ns → i ≤ j → j < length ns → get_or ns i 0 ≤ get_or ns j 0
up_get [] i j up later here = absurd (omega arith)
up_get (n ∷ ns) zero zero up later here = omega arith
up_get (n ∷ ns) zero (suc j) up later here = let over = over_get n ns j up.0 (omega arith) in omega arith
up_get (n ∷ ns) (suc i) zero up later here = absurd (omega arith)
up_get (n ∷ ns) (suc i) (suc j) up later here = up_get ns i j up.1 (omega arith) (omega arith)

-- a number that is there changes nothing
with_here : (ns : List ℕ) (i m : ℕ) → IsUp ns → i < length ns → get_or ns i 0 ≡ m → with_number m ns ≡ ns
with_here [] i m up here is_it = absurd (omega arith)
with_here (n ∷ ns) zero m up here is_it = let same : n ≡ m = is_it in simp (le-ltb m n (omega arith), eq-eqb m n (sym same))
with_here (n ∷ ns) (suc i) m up here is_it =
    let over = over_get n ns i up.0 (omega arith) in
    let there : get_or ns i 0 ≡ m = is_it in
    simp (le-ltb m n (omega arith), ne_eqb m n (omega arith)) (ap (λ rest. n ∷ rest) (with_here ns i m up.1 (omega arith) there))

-- another one goes between the smaller ones and the greater ones
with_between : (ns : List ℕ) (i m : ℕ) → i ≤ length ns → ((k : ℕ) → k < i → get_or ns k 0 < m)
    → ((k : ℕ) → i ≤ k → k < length ns → m < get_or ns k 0) → with_number m ns ≡ take i ns ++ m ∷ drop i ns
with_between [] zero m here below above = refl
with_between [] (suc i) m here below above = absurd (omega arith)
with_between (n ∷ ns) zero m here below above =
    let less : m < n = above 0 (omega arith) (omega arith) in
    rw (lt-ltb m n less) refl
with_between (n ∷ ns) (suc i) m here below above =
    let less : n < m = below 0 (omega arith) in
    simp (le-ltb m n (omega arith), ne_eqb m n (omega arith))
    (ap (λ rest. n ∷ rest) (with_between ns i m (omega arith) (λ k there. below (suc k) (omega arith)) (λ k from there. above (suc k) (omega arith) (omega arith))))

-- what a search by halves finds
pub placed : (ns : List ℕ) (m : ℕ) (r : Result ℕ ℕ) → IsUp ns → IsBinarySearchResult (λ y. nat_cmp y m) ns r
    → IsPlace ns m r
placed ns m (Ok at) up search_says =
    let found = searched ns m (Ok at) search_says (λ i j later there. up_get ns i j up later there) in
    (found.0, sym found.1 ∙ get_or_default ns at 0 m found.0, with_here ns at m up found.0 found.1)
placed ns m (Err at) up search_says =
    let found = searched ns m (Err at) search_says (λ i j later there. up_get ns i j up later there) in
    (found.0, with_between ns at m found.0 found.1 found.2)

-- the documents' numbers rise
pub documents_up : (ops : List Op) → IsUp (documents ops)
documents_up [] = tt
documents_up (op ∷ ops) = up_with op.doc (documents ops) (documents_up ops)
