-- That `==` of two clocks is equality of what they show.
use Rattle.std.proofs.Common.{◌≡◌, ◌≢◌, ℕ, ◌≤◌, ◌==◌, Bool, true, List, [], ◌∷◌, Decides, IsTrue, refl, sym, ap, arith}
use Rattle.std.proofs.lemmas.Bool.Decides.{nat_tests, Decides-and, Decides-eqb, Decides-like}
use Rattle.std.proofs.lemmas.Slice.Eq.{slice_eq-Decides}
use Rattle.op_ids.specs.Clock.{count_of, is_same_entry, is_same_clock, is_rising_above, is_clock}
use Rattle.op_ids.proofs.ClockLemmas.{rising_parts, count_of-low, is_clock_parts}

-- entries with the same parts are the same
same_pair : (a b : ℕ × ℕ) → (a.0 ≡ b.0) × (a.1 ≡ b.1) → a ≡ b
same_pair a b h = λ i. (h.0 i, h.1 i)

parts_same : (a b : ℕ × ℕ) → a ≡ b → (a.0 ≡ b.0) × (a.1 ≡ b.1)
parts_same a b h = (ap (λ (e : ℕ × ℕ). e.0) h, ap (λ (e : ℕ × ℕ). e.1) h)

is_same_entry-Decides : (a b : ℕ × ℕ) → Decides (is_same_entry a b) (a ≡ b)
is_same_entry-Decides a b =
    Decides-like (is_same_entry a b) (same_pair a b) (parts_same a b) (Decides-and (a.0 == b.0) (a.1 == b.1) (Decides-eqb a.0 b.0) (Decides-eqb a.1 b.1))

-- `==` of two clocks says whether they are the same
pub is_same_clock_tells : (a b : List (ℕ × ℕ)) (r : Bool) → r ≡ is_same_clock a b → (IsTrue r → a ≡ b) × (a ≡ b → IsTrue r)
is_same_clock_tells a b r h = slice_eq-Decides is_same_entry-Decides a b r h

-- the same counts of every replica
abbrev pub SameCounts : List (ℕ × ℕ) → List (ℕ × ℕ) → Type 0
SameCounts a b = (r : ℕ) → count_of a r ≡ count_of b r

-- lists with the same counts have the same first entry
same_first : (low high : ℕ) (e f : ℕ × ℕ) (es fs : List (ℕ × ℕ)) → is_rising_above low (e ∷ es) ≡ true → is_rising_above high (f ∷ fs) ≡ true → SameCounts (e ∷ es) (f ∷ fs) → e ≡ f
same_first low high e f es fs h k same =
    let p = rising_parts low e es h in
    let q = rising_parts high f fs k in
    let at_e = same e.0 in
    let at_f = same f.0 in
    let none_e : f.0 ≤ e.0 → count_of es f.0 ≡ 0 = count_of-low es e.0 f.0 p.rest in
    let none_f : e.0 ≤ f.0 → count_of fs e.0 ≡ 0 = count_of-low fs f.0 e.0 q.rest in
    let replica : e.0 ≡ f.0 = grind (arith, nat_tests) in
    let count : e.1 ≡ f.1 = grind (arith, nat_tests) in
    same_pair e f (replica, count)

-- past equal first entries the counts are the same
same_rest : (low high : ℕ) (e f : ℕ × ℕ) (es fs : List (ℕ × ℕ)) → is_rising_above low (e ∷ es) ≡ true → is_rising_above high (f ∷ fs) ≡ true → e ≡ f → SameCounts (e ∷ es) (f ∷ fs) → SameCounts es fs
same_rest low high e f es fs h k first same r =
    let p = rising_parts low e es h in
    let q = rising_parts high f fs k in
    let replica = ap (λ (x : ℕ × ℕ). x.0) first in
    let at_r = same r in
    let none_e : r ≤ e.0 → count_of es r ≡ 0 = count_of-low es e.0 r p.rest in
    let none_f : r ≤ f.0 → count_of fs r ≡ 0 = count_of-low fs f.0 r q.rest in
    grind (arith, nat_tests)

-- an empty list and one with an entry don't count the same
not_same : (low : ℕ) (e : ℕ × ℕ) (es : List (ℕ × ℕ)) → is_rising_above low (e ∷ es) ≡ true → count_of (e ∷ es) e.0 ≢ 0
not_same low e es h =
    let p = rising_parts low e es h in
    grind (arith, nat_tests)

-- rising lists with the same counts are the same
pub same_from_counts : (a b : List (ℕ × ℕ)) (low high : ℕ) → is_rising_above low a ≡ true → is_rising_above high b ≡ true → SameCounts a b → a ≡ b
same_from_counts [] [] low high h k same = refl
same_from_counts [] (f ∷ fs) low high h k same = absurd (not_same high f fs k (sym (same f.0)))
same_from_counts (e ∷ es) [] low high h k same = absurd (not_same low e es h (same e.0))
same_from_counts (e ∷ es) (f ∷ fs) low high h k same =
    let p = rising_parts low e es h in
    let q = rising_parts high f fs k in
    let first = same_first low high e f es fs h k same in
    let rest = same_from_counts es fs e.0 f.0 p.rest q.rest (same_rest low high e f es fs h k first same) in
    λ i. first i ∷ rest i

-- clocks with the same counts are the same
pub same_clock_from_counts : (a b : List (ℕ × ℕ)) → is_clock a ≡ true → is_clock b ≡ true → SameCounts a b → a ≡ b
same_clock_from_counts a b h k same =
    let p = is_clock_parts a h in
    let q = is_clock_parts b k in
    same_from_counts a b 0 0 p.0 q.0 same
