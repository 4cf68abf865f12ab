-- Numbers in rising order, each once: one more, some of them, and that their members tell them.
use Rattle.std.proofs.Common.{◌≡◌, ℕ, ◌<◌, ◌≤◌, Bool, true, false, inl, inr, ◌&&◌, ◌||◌, List, [], ◌∷◌, refl, sym, ◌∙◌, ap, arith}
use Rattle.std.specs.Prelude.{◌==◌, filter}
use Rattle.std.specs.List.{list_any}
use Rattle.std.proofs.lemmas.Bool.{cases_Bool, cases_order, eq-eqb, ne_eqb, lt-ltb, le-ltb, both_ways, or_from}
use Rattle.op_model.specs.Spans.{with_number, rising}
use Rattle.op_model.specs.Rising.{AllOver, IsUp}

-- a number is one of these
abbrev pub has : ℕ → List ℕ → Bool
has n ns = list_any (λ m. m == n) ns

pub none_over : (n m : ℕ) (ns : List ℕ) → n ≤ m → AllOver m ns → has n ns ≡ false
none_over n m [] most over = refl
none_over n m (k ∷ ns) most over =
    or_from (k == n) (has n ns) (ne_eqb k n (let first = over.0 in omega arith)) (none_over n m ns most over.1)

or_swapped : (a b c : Bool) → (a || (b || c)) ≡ (b || (a || c))
or_swapped true true c = refl
or_swapped true false c = refl
or_swapped false true c = refl
or_swapped false false c = refl

or_twice : (a b : Bool) → (a || b) ≡ (a || (a || b))
or_twice true b = refl
or_twice false b = refl

pub has-with : (n m : ℕ) (ns : List ℕ) → has n (with_number m ns) ≡ ((m == n) || has n ns)
has-with n m [] = refl
has-with n m (k ∷ ns) =
    elim (cases_order m k) [
      | inl same ↦ simp (le-ltb m k (omega arith), eq-eqb m k same) (rw same (or_twice (k == n) (has n ns)))
      | inr o ↦ elim o [
        | inl below ↦ rw (lt-ltb m k below) refl
        | inr above ↦ simp (le-ltb m k (omega arith), ne_eqb m k (omega arith))
            (ap (λ rest. (k == n) || rest) (has-with n m ns) ∙ or_swapped (k == n) (m == n) (has n ns))
      ]
    ]

pub has-rising : (n : ℕ) (ns : List ℕ) → has n (rising ns) ≡ has n ns
has-rising n [] = refl
has-rising n (m ∷ ns) = has-with n m (rising ns) ∙ ap (λ rest. (m == n) || rest) (has-rising n ns)

over_filter : (p : ℕ → Bool) (n : ℕ) (ns : List ℕ) → AllOver n ns → AllOver n (filter p ns)
over_filter p n [] over = tt
over_filter p n (m ∷ ns) over =
    elim (cases_Bool (p m)) [
      | inl e ↦ rw e (over.0, over_filter p n ns over.1)
      | inr e ↦ rw e (over_filter p n ns over.1)
    ]

pub up_filter : (p : ℕ → Bool) (ns : List ℕ) → IsUp ns → IsUp (filter p ns)
up_filter p [] up = tt
up_filter p (n ∷ ns) up =
    elim (cases_Bool (p n)) [
      | inl e ↦ rw e (over_filter p n ns up.0, up_filter p ns up.1)
      | inr e ↦ rw e (up_filter p ns up.1)
    ]

passing_here : (p : ℕ → Bool) (n m : ℕ) (rest : Bool) → p m ≡ true → ((m == n) || (p n && rest)) ≡ (p n && ((m == n) || rest))
passing_here p n m rest passes =
    elim (cases_order m n) [
      | inl same ↦ let here : p n ≡ true = rw same at passes in rw here (rw (eq-eqb m n same) refl)
      | inr o ↦ let apart : (m == n) ≡ false = elim o [ inl l ↦ ne_eqb m n (omega arith) | inr l ↦ ne_eqb m n (omega arith) ] in rw apart refl
    ]

and_none : (a : Bool) → (a && false) ≡ false
and_none true = refl
and_none false = refl

passing_not : (p : ℕ → Bool) (n m : ℕ) (rest : Bool) → p m ≡ false → (p n && rest) ≡ (p n && ((m == n) || rest))
passing_not p n m rest fails =
    elim (cases_order m n) [
      | inl same ↦ let here : p n ≡ false = rw same at fails in rw here refl
      | inr o ↦ let apart : (m == n) ≡ false = elim o [ inl l ↦ ne_eqb m n (omega arith) | inr l ↦ ne_eqb m n (omega arith) ] in rw apart refl
    ]

pub has-filter : (p : ℕ → Bool) (n : ℕ) (ns : List ℕ) → has n (filter p ns) ≡ (p n && has n ns)
has-filter p n [] = sym (and_none (p n))
has-filter p n (m ∷ ns) =
    elim (cases_Bool (p m)) [
      | inl e ↦ rw e (ap (λ rest. (m == n) || rest) (has-filter p n ns) ∙ passing_here p n m (has n ns) e)
      | inr e ↦ rw e (has-filter p n ns ∙ passing_not p n m (has n ns) e)
    ]

-- behind equal first numbers the rests have the same members
same_rests : (x : ℕ) (a b : List ℕ) → AllOver x a → AllOver x b → ((n : ℕ) → has n (x ∷ a) ≡ has n (x ∷ b)) → (n : ℕ) → has n a ≡ has n b
same_rests x a b over_a over_b same n =
    elim (cases_order x n) [
      | inl here ↦ none_over n x a (omega arith) over_a ∙ sym (none_over n x b (omega arith) over_b)
      | inr o ↦ let apart : (x == n) ≡ false = elim o [ inl l ↦ ne_eqb x n (omega arith) | inr l ↦ ne_eqb x n (omega arith) ] in
          rw apart at (same n)
    ]

first_there : (x : ℕ) (a : List ℕ) → has x (x ∷ a) ≡ true
first_there x a = let here : (x == x) ≡ true = eq-eqb x x refl in rw here refl

-- rising numbers with the same members are the same
pub same_members : (a b : List ℕ) → IsUp a → IsUp b → ((n : ℕ) → has n a ≡ has n b) → a ≡ b
same_members [] [] up_a up_b same = refl
same_members [] (y ∷ b) up_a up_b same = absurd (both_ways (has y (y ∷ b)) (sym (same y)) (first_there y b))
same_members (x ∷ a) [] up_a up_b same = absurd (both_ways (has x (x ∷ a)) (same x) (first_there x a))
same_members (x ∷ a) (y ∷ b) up_a up_b same =
    elim (cases_order x y) [
      | inl here ↦ let over : AllOver x b = rw here up_b.0 in
          let members : (n : ℕ) → has n (x ∷ a) ≡ has n (x ∷ b) = λ n. same n ∙ ap (λ z. has n (z ∷ b)) (sym here) in
          rw here (ap (λ rest. y ∷ rest) (same_members a b up_a.1 up_b.1 (same_rests x a b up_a.0 over members)))
      | inr o ↦ elim o [
        | inl less ↦ absurd (both_ways (has x (x ∷ a))
            (same x ∙ or_from (y == x) (has x b) (ne_eqb y x (omega arith)) (none_over x y b (omega arith) up_b.0)) (first_there x a))
        | inr more ↦ absurd (both_ways (has y (y ∷ b))
            (sym (same y) ∙ or_from (x == y) (has y a) (ne_eqb x y (omega arith)) (none_over y x a (omega arith) up_a.0)) (first_there y b))
      ]
    ]
