-- Numbers of pages that are put together.
use Rattle.std.proofs.Common.{◌≡◌, ℕ, zero, suc, Bool, true, false, ◌==◌, List, [], ◌∷◌, ◌++◌, take, drop, refl, sym, ap, ◌∙◌, inl, inr, arith}
use Rattle.std.proofs.lemmas.Bool.{or_cases}
use Rattle.std.proofs.lemmas.Bool.Decides.{nat_tests}
use Rattle.std.proofs.lemmas.List.{take-append-drop}
use Rattle.page_file.specs.Pages.{has, are_pages}
use Rattle.page_file.proofs.Apart.{has-append, first_behind, first_once, rest_apart, apart_first, apart_second}

-- no number is in both
abbrev pub AreApart : List ℕ → List ℕ → Type 0
AreApart a b = (x : ℕ) → has x a ≡ true → has x b ≡ false

same_number : (x y : ℕ) → (x == y) ≡ true → x ≡ y
same_number x y is = grind (arith, nat_tests)

pub lists_apart : (a b : List ℕ) → are_pages (a ++ b) ≡ true → AreApart a b
lists_apart [] b apart x is_there = absurd cc
lists_apart (n ∷ ns) b apart x is_there = elim (or_cases (x == n) (has x ns) is_there) [
  | inl same ↦ rw (same_number x n same) (lacks_second n ns b (first_once n (ns ++ b) apart))
  | inr later ↦ lists_apart ns b (rest_apart n (ns ++ b) apart) x later
]
  where
    lacks_second : (n : ℕ) (ns b : List ℕ) → has n (ns ++ b) ≡ false → has n b ≡ false
    lacks_second n ns b lacks = let split = has-append n ns b in grind (arith, nat_tests)

pub put_together : (a b : List ℕ) → are_pages a ≡ true → are_pages b ≡ true → AreApart a b → are_pages (a ++ b) ≡ true
put_together [] b first second apart = second
put_together (n ∷ ns) b first second apart =
    let rest = put_together ns b (rest_apart n ns first) second (λ x is_there. apart x (later x n ns is_there)) in
    let once = first_once n ns first in
    let behind = first_behind n ns first in
    let other = apart n (here n ns) in
    let split = has-append n ns b in
    grind (arith, nat_tests)
  where
    later : (x n : ℕ) (ns : List ℕ) → has x ns ≡ true → has x (n ∷ ns) ≡ true
    later x n ns is = grind (arith, nat_tests)

    here : (n : ℕ) (ns : List ℕ) → has n (n ∷ ns) ≡ true
    here n ns = grind (arith, nat_tests)

pub apart-take : (k : ℕ) (ns : List ℕ) → are_pages ns ≡ true → are_pages (take k ns) ≡ true
apart-take k ns apart = apart_first (take k ns) (drop k ns) (ap are_pages (take-append-drop k ns) ∙ apart)

has-take : (x k : ℕ) (ns : List ℕ) → has x (take k ns) ≡ true → has x ns ≡ true
has-take x zero ns is = absurd cc
has-take x (suc k) [] is = absurd cc
has-take x (suc k) (n ∷ ns) is = elim (or_cases (x == n) (has x (take k ns)) is) [
  | inl same ↦ grind (arith, nat_tests)
  | inr later ↦ let rest = has-take x k ns later in grind (arith, nat_tests)
]

in_either : (x : ℕ) (a b : List ℕ) → has x a ≡ false → has x b ≡ false → has x (a ++ b) ≡ false
in_either x a b first second = let split = has-append x a b in grind (arith, nat_tests)

not_in : (x : ℕ) (a b : List ℕ) → AreApart a b → has x b ≡ true → has x a ≡ false
not_in x a b apart is = by_test (has x a) refl
  where
    by_test : (t : Bool) → has x a ≡ t → has x a ≡ false
    by_test true there = let other = apart x there in absurd cc
    by_test false lacks = lacks

taken_apart : (x k : ℕ) (ns : List ℕ) → has x ns ≡ false → has x (take k ns) ≡ false
taken_apart x k ns lacks = by_test (has x (take k ns)) refl
  where
    by_test : (t : Bool) → has x (take k ns) ≡ t → has x (take k ns) ≡ false
    by_test true there = let is = has-take x k ns there in absurd cc
    by_test false lacks = lacks

-- the first of some pages, and new ones behind them, of two lists of pages
pub renewed_apart : (i j : ℕ) (tables data_pages new_data new_tables : List ℕ) → are_pages ((new_data ++ new_tables) ++ (tables ++ data_pages)) ≡ true
    → are_pages ((take j tables ++ new_tables) ++ (take i data_pages ++ new_data)) ≡ true
renewed_apart i j tables data_pages new_data new_tables apart =
    let fresh = apart_first (new_data ++ new_tables) (tables ++ data_pages) apart in
    let old = apart_second (new_data ++ new_tables) (tables ++ data_pages) apart in
    let beside = lists_apart (new_data ++ new_tables) (tables ++ data_pages) apart in
    let fresh_beside = lists_apart new_data new_tables fresh in
    let old_beside = lists_apart tables data_pages old in
    -- a new number is no old one
    let table_new : (x : ℕ) → has x tables ≡ true → has x (new_data ++ new_tables) ≡ false = λ x is.
    not_in x (new_data ++ new_tables) (tables ++ data_pages) beside (in_first x tables data_pages is) in
    let data_new : (x : ℕ) → has x data_pages ≡ true → has x (new_data ++ new_tables) ≡ false = λ x is.
    not_in x (new_data ++ new_tables) (tables ++ data_pages) beside (in_second x tables data_pages is) in
    put_together (take j tables ++ new_tables) (take i data_pages ++ new_data)
    (put_together (take j tables) new_tables (apart-take j tables (apart_first tables data_pages old)) (apart_second new_data new_tables fresh)
    (λ x is. lacks_second x new_data new_tables (table_new x (has-take x j tables is))))
    (put_together (take i data_pages) new_data (apart-take i data_pages (apart_second tables data_pages old)) (apart_first new_data new_tables fresh)
    (λ x is. lacks_first x new_data new_tables (data_new x (has-take x i data_pages is))))
    (λ x is. elim (or_cases (has x (take j tables)) (has x new_tables) (sym (has-append x (take j tables) new_tables) ∙ is)) [
      | inl from_table ↦
          let there = has-take x j tables from_table in
          in_either x (take i data_pages) new_data (taken_apart x i data_pages (old_beside x there)) (lacks_first x new_data new_tables (table_new x there))
      | inr from_new ↦
          in_either x (take i data_pages) new_data
          (taken_apart x i data_pages (lacks_second x tables data_pages (beside x (in_second x new_data new_tables from_new))))
          (not_in x new_data new_tables fresh_beside from_new)
    ])
  where
    in_first : (x : ℕ) (a b : List ℕ) → has x a ≡ true → has x (a ++ b) ≡ true
    in_first x a b is = let split = has-append x a b in grind (arith, nat_tests)

    in_second : (x : ℕ) (a b : List ℕ) → has x b ≡ true → has x (a ++ b) ≡ true
    in_second x a b is = let split = has-append x a b in grind (arith, nat_tests)

    lacks_first : (x : ℕ) (a b : List ℕ) → has x (a ++ b) ≡ false → has x a ≡ false
    lacks_first x a b is = let split = has-append x a b in grind (arith, nat_tests)

    lacks_second : (x : ℕ) (a b : List ℕ) → has x (a ++ b) ≡ false → has x b ≡ false
    lacks_second x a b is = let split = has-append x a b in grind (arith, nat_tests)
