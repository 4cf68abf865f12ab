-- Parts of one size, and which of them differ from those before.
use Rattle.std.proofs.Common.{◌≡◌, ◌≢◌, ℕ, zero, suc, ◌+◌, ◌-◌, ◌*◌, ◌<◌, ◌≤◌, Bool, true, false}
use Rattle.std.proofs.Common.{List, [], ◌∷◌, ◌++◌, length, take, drop, refl, sym, ap, ◌∙◌, inl, inr}
use Rattle.std.proofs.Common.{arith, if◌then◌else◌}
use Rattle.std.proofs.lemmas.Bool.{cases_lt}
use Rattle.std.proofs.lemmas.Bool.Decides.{nat_tests}
use Rattle.std.proofs.lemmas.List.{take-take, drop-take, drop-drop, append-nil}
use Rattle.group_commit.specs.Changes.{cut, are_same, changed}

same_as_itself : (xs : List ℕ) → are_same xs xs ≡ true
same_as_itself [] = refl
same_as_itself (x ∷ xs) = let rest = same_as_itself xs in grind (arith, nat_tests)

same_is : (xs ys : List ℕ) → are_same xs ys ≡ true → xs ≡ ys
same_is [] [] is = refl
same_is [] (y ∷ ys) is = absurd cc
same_is (x ∷ xs) [] is = absurd cc
same_is (x ∷ xs) (y ∷ ys) is = by_parts (first x y xs ys is) (same_is xs ys (rest x y xs ys is))
  where
    first : (x y : ℕ) (xs ys : List ℕ) → are_same (x ∷ xs) (y ∷ ys) ≡ true → x ≡ y
    first x y xs ys is = grind (arith, nat_tests)

    rest : (x y : ℕ) (xs ys : List ℕ) → are_same (x ∷ xs) (y ∷ ys) ≡ true → are_same xs ys ≡ true
    rest x y xs ys is = grind (arith, nat_tests)

    by_parts : x ≡ y → xs ≡ ys → x ∷ xs ≡ y ∷ ys
    by_parts one more = ap (λ n. n ∷ xs) one ∙ ap (λ ns. y ∷ ns) more

-- pages that are the same at the front are left out
changed_behind : (front old pages : List (List ℕ)) (numbers more : List ℕ) → length numbers ≡ length front
    → changed (front ++ old) (front ++ pages) (numbers ++ more) ≡ changed old pages more
changed_behind [] old pages [] more size = refl
changed_behind [] old pages (n ∷ ns) more size = absurd (omega (arith, size))
changed_behind (x ∷ xs) old pages [] more size = absurd (omega (arith, size))
changed_behind (x ∷ xs) old pages (n ∷ ns) more size =
    by_test (are_same x x) (same_as_itself x) ∙ changed_behind xs old pages ns more (omega (arith, size))
  where
    by_test : (t : Bool) → t ≡ true
        → (if t then changed (xs ++ old) (xs ++ pages) (ns ++ more) else n ∷ changed (xs ++ old) (xs ++ pages) (ns ++ more))
        ≡ changed (xs ++ old) (xs ++ pages) (ns ++ more)
    by_test t is = rw (is) refl

-- new ones are all there
changed_new : (pages : List (List ℕ)) (numbers : List ℕ) → length numbers ≡ length pages → changed [] pages numbers ≡ numbers
changed_new [] [] size = refl
changed_new [] (n ∷ ns) size = absurd (omega (arith, size))
changed_new (p ∷ ps) [] size = absurd (omega (arith, size))
changed_new (p ∷ ps) (n ∷ ns) size = ap (λ ms. n ∷ ms) (changed_new ps ns (omega (arith, size)))

-- one that differs, and new ones
changed_last : (before page : List ℕ) (pages : List (List ℕ)) (numbers : List ℕ) → before ≢ page → length numbers ≡ suc (length pages)
    → changed (before ∷ []) (page ∷ pages) numbers ≡ numbers
changed_last before page pages [] differs size = absurd (omega (arith, size))
changed_last before page pages (n ∷ ns) differs size =
    by_test (are_same before page) (λ is. differs (same_is before page is)) ∙ ap (λ ms. n ∷ ms) (changed_new pages ns (omega (arith, size)))
  where
    by_test : (t : Bool) → (t ≡ true → ⊥) → (if t then changed [] pages ns else n ∷ changed [] pages ns) ≡ n ∷ changed [] pages ns
    by_test true never = absurd (never refl)
    by_test false never = refl

length-cut : (size n : ℕ) (all : List ℕ) → length (cut size n all) ≡ n
length-cut size zero all = refl
length-cut size (suc n) all = let rest = length-cut size n (drop size all) in omega (arith, rest)

cut-append : (size m n : ℕ) (all : List ℕ) → cut size (m + n) all ≡ cut size m all ++ cut size n (drop (size * m) all)
cut-append size zero n all =
    let none : size * 0 ≡ 0 = omega arith in let same : 0 + n ≡ n = omega arith in
    ap (λ k. cut size k all) same ∙ sym (ap (λ k. cut size n (drop k all)) none)
cut-append size (suc m) n all =
    let more : suc m + n ≡ suc (m + n) = omega arith in
    let place : size + size * m ≡ size * suc m = omega arith in
    ap (λ k. cut size k all) more
    ∙ ap (λ r. take size all ∷ r) (cut-append size m n (drop size all)
    ∙ ap (λ r. cut size m (drop size all) ++ cut size n r) (drop-drop (size * m) size all ∙ ap (λ k. drop k all) place))

-- the first parts are those of the first bytes
cut_same : (size n : ℕ) (a b : List ℕ) → take (size * n) a ≡ take (size * n) b → cut size n a ≡ cut size n b
cut_same size zero a b same = refl
cut_same size (suc n) a b same =
    let more : size * suc n ≡ size + size * n = omega arith in
    let there : take (size + size * n) a ≡ take (size + size * n) b = rw (more) at same in
    let first : take size a ≡ take size b =
    sym (take-take size (size + size * n) a (omega arith)) ∙ ap (take size) there ∙ take-take size (size + size * n) b (omega arith) in
    let rest : take (size * n) (drop size a) ≡ take (size * n) (drop size b) =
    sym (drop-take size (size * n) a) ∙ ap (drop size) there ∙ drop-take size (size * n) b in
    ap (λ p. p ∷ cut size n (drop size a)) first ∙ ap (λ ps. take size b ∷ ps) (cut_same size n (drop size a) (drop size b) rest)

-- So many parts stay. If they aren't all of the old ones, it is the last that differs.
pub record Stays (size kept p : ℕ) (a b : List ℕ) : Type 0 where
  pub within : kept ≤ p
  pub near : p ≤ kept + 1
  pub same : take (size * kept) a ≡ take (size * kept) b
  pub differs : kept < p → take size (drop (size * kept) a) ≢ take size (drop (size * kept) b)

-- then those behind them are what changes or is new
pub cut_changed : (size kept p p' : ℕ) (a b ns ms : List ℕ) → Stays size kept p a b → length ns ≡ kept → kept + length ms ≡ p' → p ≤ p'
    → changed (cut size p a) (cut size p' b) (ns ++ ms) ≡ ms
cut_changed size kept p p' a b ns ms stays front back grows = elim (cases_lt kept p) [
  | inl below ↦
      let one : p ≡ kept + 1 = omega (arith, below, stays.near) in
      let some : length ms ≡ suc (length ms - 1) = omega (arith, below, back, grows) in
      let more : p' ≡ kept + suc (length ms - 1) = omega (arith, back, some) in
      let rest = drop size (drop (size * kept) b) in
      ap (λ ps. changed ps (cut size p' b) (ns ++ ms)) (ap (λ k. cut size k a) one ∙ cut-append size kept 1 a ∙ ap (λ c. c ++ take size (drop (size * kept) a) ∷ []) (cut_same size kept a b stays.same))
      ∙ ap (λ ps. changed (cut size kept b ++ take size (drop (size * kept) a) ∷ []) ps (ns ++ ms)) (ap (λ k. cut size k b) more ∙ cut-append size kept (suc (length ms - 1)) b)
      ∙ changed_behind (cut size kept b) (take size (drop (size * kept) a) ∷ []) (take size (drop (size * kept) b) ∷ cut size (length ms - 1) rest) ns ms
      (front ∙ sym (length-cut size kept b))
      ∙ changed_last (take size (drop (size * kept) a)) (take size (drop (size * kept) b)) (cut size (length ms - 1) rest) ms (stays.differs below)
      (some ∙ ap suc (sym (length-cut size (length ms - 1) rest)))
  | inr above ↦
      let all : p ≡ kept = omega (arith, above, stays.within) in
      ap (λ ps. changed ps (cut size p' b) (ns ++ ms)) (ap (λ k. cut size k a) all ∙ cut_same size kept a b stays.same ∙ sym (append-nil (cut size kept b)))
      ∙ ap (λ ps. changed (cut size kept b ++ []) ps (ns ++ ms)) (ap (λ k. cut size k b) (sym back) ∙ cut-append size kept (length ms) b)
      ∙ changed_behind (cut size kept b) [] (cut size (length ms) (drop (size * kept) b)) ns ms (front ∙ sym (length-cut size kept b))
      ∙ changed_new (cut size (length ms) (drop (size * kept) b)) ms (sym (length-cut size (length ms) (drop (size * kept) b)))
]
