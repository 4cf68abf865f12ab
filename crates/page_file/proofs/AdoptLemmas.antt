-- The pages of the next root in place of the live ones.
use Rattle.std.proofs.Common.{◌≡◌, ◌≢◌, ℕ, zero, suc, ◌+◌, ◌<◌, ◌≤◌, Bool, true, false, not, ◌&&◌}
use Rattle.std.proofs.Common.{◌||◌, nat_le, nat_lt, List, [], ◌∷◌, ◌++◌, length, get_or, take, drop}
use Rattle.std.proofs.Common.{refl, sym, ap, ◌∙◌, inl, inr, arith, if◌then◌else◌}
use Rattle.std.proofs.lemmas.Bool.{cases_lt}
use Rattle.std.proofs.lemmas.Bool.Decides.{nat_tests}
use Rattle.page_file.specs.declared.gaps.Gap.{Gap}
use Rattle.page_file.specs.Gaps.{in_gaps, are_falling}
use Rattle.page_file.specs.Index.{AreOthers}
use Rattle.page_file.specs.Pages.{has, are_pages}
use Rattle.page_file.proofs.Apart.{first_once, rest_apart, has_each, other_than}
use Rattle.page_file.proofs.GapLemmas.{none_above}
use Rattle.page_file.proofs.Times.{times, has_times, times-append, times_parts, page_times, pages_by_times}

-- a page that is used is in none of the ranges
pub used_out : (m : ℕ) (pages : List ℕ) (gaps : List Gap) → AreOthers pages gaps → has m pages ≡ true → in_gaps m gaps ≡ false
used_out m pages gaps others there = elim (cases_lt m 4294967296) [
  | inl below ↦ others.free m below ∙ ap (λ h. nat_le 2 m && not h) there ∙ none (nat_le 2 m)
  | inr above ↦ none_above 4294967296 m gaps others.falling above
]
  where
    none : (b : Bool) → (b && not true) ≡ false
    none true = refl
    none false = refl

-- of pages none stands before itself
pub not_before : (ns : List ℕ) (i : ℕ) → are_pages ns ≡ true → i < length ns → has (get_or ns i 0) (take i ns) ≡ false
not_before [] i apart within = absurd (omega (arith, within))
not_before (n ∷ ns) zero apart within = refl
not_before (n ∷ ns) (suc i) apart within =
    later n (get_or ns i 0) (take i ns)
    (other_than n (get_or ns i 0) ns (first_once n ns apart) (has_each ns i (omega (arith, within))))
    (not_before ns i (rest_apart n ns apart) (omega (arith, within)))
  where
    later : (n m : ℕ) (ms : List ℕ) → n ≢ m → has m ms ≡ false → has m (n ∷ ms) ≡ false
    later n m ms other lacks = grind (arith, nat_tests)

-- so often a number is among the used pages, part by part
pub used_times : (m nd kt kd : ℕ) (taken tables named : List ℕ)
    → times m (taken ++ (tables ++ named))
    ≡ (times m (take nd taken) + times m (drop nd taken)) + ((times m (take kt tables) + times m (drop kt tables)) + (times m (take kd named) + times m (drop kd named)))
used_times m nd kt kd taken tables named =
    omega (arith, times-append m taken (tables ++ named), times-append m tables named, times_parts m nd taken, times_parts m kt tables, times_parts m kd named)

-- and so often among those of the next root
pub next_times : (m nd kt kd : ℕ) (taken tables named : List ℕ)
    → times m ((take kt tables ++ drop nd taken) ++ (take kd named ++ take nd taken))
    ≡ (times m (take kt tables) + times m (drop nd taken)) + (times m (take kd named) + times m (take nd taken))
next_times m nd kt kd taken tables named =
    omega (arith, times-append m (take kt tables ++ drop nd taken) (take kd named ++ take nd taken), times-append m (take kt tables) (drop nd taken), times-append m (take kd named) (take nd taken))

-- the tables that don't stay
pub old_tables : (kt : ℕ) (taken tables named : List ℕ) → are_pages (taken ++ (tables ++ named)) ≡ true → are_pages (drop kt tables) ≡ true
old_tables kt taken tables named apart = pages_by_times (drop kt tables) (λ n. omega (arith, page_times (taken ++ (tables ++ named)) apart n, used_times n 0 kt 0 taken tables named))

pub old_data : (kd : ℕ) (taken tables named : List ℕ) → are_pages (taken ++ (tables ++ named)) ≡ true → are_pages (drop kd named) ≡ true
old_data kd taken tables named apart = pages_by_times (drop kd named) (λ n. omega (arith, page_times (taken ++ (tables ++ named)) apart n, used_times n 0 0 kd taken tables named))

some_at : (m : ℕ) (ns : List ℕ) → has m ns ≡ true → 1 ≤ times m ns
some_at m ns there = positive (times m ns) (sym (has_times m ns) ∙ there)
  where
    positive : (k : ℕ) → nat_lt 0 k ≡ true → 1 ≤ k
    positive k is = grind (arith, nat_tests)

there_by : (m : ℕ) (ns : List ℕ) → 1 ≤ times m ns → has m ns ≡ true
there_by m ns some = has_times m ns ∙ positive (times m ns) some
  where
    positive : (k : ℕ) → 1 ≤ k → nat_lt 0 k ≡ true
    positive k some = grind (arith, nat_tests)

none_by : (m : ℕ) (ns : List ℕ) → times m ns ≡ 0 → has m ns ≡ false
none_by m ns none = has_times m ns ∙ ap (nat_lt 0) none

-- a table that doesn't stay is in none of the ranges
pub table_out : (m kt : ℕ) (taken tables named : List ℕ) (gaps : List Gap) → AreOthers (taken ++ (tables ++ named)) gaps → has m (drop kt tables) ≡ true → in_gaps m gaps ≡ false
table_out m kt taken tables named gaps others there =
    used_out m (taken ++ (tables ++ named)) gaps others
    (there_by m (taken ++ (tables ++ named)) (omega (arith, some_at m (drop kt tables) there, used_times m 0 kt 0 taken tables named)))

-- a data page that doesn't stay is in none of them, and no table
pub data_out : (m kt kd : ℕ) (taken tables named : List ℕ) (gaps : List Gap) → AreOthers (taken ++ (tables ++ named)) gaps → has m (drop kd named) ≡ true
    → (in_gaps m gaps || has m (drop kt tables)) ≡ false
data_out m kt kd taken tables named gaps others there =
    let some = some_at m (drop kd named) there in
    let most = page_times (taken ++ (tables ++ named)) others.apart m in
    let split = used_times m 0 kt kd taken tables named in
    neither (in_gaps m gaps) (has m (drop kt tables))
    (used_out m (taken ++ (tables ++ named)) gaps others (there_by m (taken ++ (tables ++ named)) (omega (arith, some, split))))
    (none_by m (drop kt tables) (at_most (nat_le 2 m) (times m (taken ++ (tables ++ named))) (times m (drop kt tables)) (times m (drop kd named))
    (times m (take 0 taken)) (times m (drop 0 taken)) (times m (take kt tables)) (times m (take kd named)) most some split))
  where
    neither : (a b : Bool) → a ≡ false → b ≡ false → (a || b) ≡ false
    neither a b one two = rw (one, two) refl

    at_most : (z : Bool) (all d f x y w v : ℕ) → all ≤ (if z then 1 else 0) → 1 ≤ f → all ≡ (x + y) + ((w + d) + (v + f)) → d ≡ 0
    at_most true all d f x y w v most some split = omega (arith, most, some, split)
    at_most false all d f x y w v most some split = omega (arith, most, some, split)

-- the ranges with what doesn't stay have all pages but those of the next root
pub next_others : (nd kt kd : ℕ) (taken tables named : List ℕ) (gaps new : List Gap) → AreOthers (taken ++ (tables ++ named)) gaps → are_falling 4294967296 new ≡ true
    → ((m : ℕ) → in_gaps m new ≡ ((in_gaps m gaps || has m (drop kt tables)) || has m (drop kd named)))
    → AreOthers ((take kt tables ++ drop nd taken) ++ (take kd named ++ take nd taken)) new
next_others nd kt kd taken tables named gaps new others falls more = record {
  apart = pages_by_times ((take kt tables ++ drop nd taken) ++ (take kd named ++ take nd taken))
      (λ n. omega (arith, page_times (taken ++ (tables ++ named)) others.apart n, used_times n nd kt kd taken tables named, next_times n nd kt kd taken tables named));
  falling = falls;
  free = λ m below.
      more m ∙ ap (λ b. (b || has m (drop kt tables)) || has m (drop kd named)) (others.free m below ∙ ap (λ b. nat_le 2 m && not b) (has_times m (taken ++ (tables ++ named)) ∙ ap (nat_lt 0) (used_times m nd kt kd taken tables named)))
      ∙ ap (λ b. ((nat_le 2 m && not (nat_lt 0 (sum_of m))) || b) || has m (drop kd named)) (has_times m (drop kt tables))
      ∙ ap (λ b. ((nat_le 2 m && not (nat_lt 0 (sum_of m))) || nat_lt 0 (times m (drop kt tables))) || b) (has_times m (drop kd named))
      ∙ left_free (nat_le 2 m) (times m (take nd taken)) (times m (drop nd taken)) (times m (take kt tables)) (times m (drop kt tables)) (times m (take kd named)) (times m (drop kd named))
      (rw (used_times m nd kt kd taken tables named) at (page_times (taken ++ (tables ++ named)) others.apart m))
      ∙ ap (λ b. nat_le 2 m && not b) (sym (has_times m ((take kt tables ++ drop nd taken) ++ (take kd named ++ take nd taken)) ∙ ap (nat_lt 0) (next_times m nd kt kd taken tables named)));
}
  where
    sum_of : ℕ → ℕ
    sum_of m = (times m (take nd taken) + times m (drop nd taken)) + ((times m (take kt tables) + times m (drop kt tables)) + (times m (take kd named) + times m (drop kd named)))

    left_free : (z : Bool) (a b c d e f : ℕ) → (a + b) + ((c + d) + (e + f)) ≤ (if z then 1 else 0)
        → (((z && not (nat_lt 0 ((a + b) + ((c + d) + (e + f))))) || nat_lt 0 d) || nat_lt 0 f) ≡ (z && not (nat_lt 0 ((c + b) + (e + a))))
    left_free true a b c d e f most = grind (arith, nat_tests)
    left_free false a b c d e f most = grind (arith, nat_tests)
