-- Ranges that have all pages but some: the lowest of them is the lowest free page.
use Rattle.std.proofs.Common.{◌≡◌, ℕ, ◌<◌, ◌≤◌, Bool, true, false, not, ◌&&◌, ◌||◌, ◌==◌, nat_le}
use Rattle.std.proofs.Common.{List, [], ◌∷◌, ◌++◌, length, get_or, take, refl, sym, ap, ◌∙◌, inl}
use Rattle.std.proofs.Common.{inr, arith, length-append, append_assoc}
use Rattle.std.proofs.lemmas.Bool.{cases_lt}
use Rattle.std.proofs.lemmas.Bool.Decides.{nat_tests}
use Rattle.std.proofs.lemmas.List.{take_at, take-append-le, get_or_append_left}
use Rattle.page_file.specs.declared.gaps.Gap.{Gap}
use Rattle.page_file.specs.Free.{IsLowestFree, AreLowest}
use Rattle.page_file.specs.Gaps.{in_gaps, are_falling, bottom}
use Rattle.page_file.specs.Index.{AreOthers}
use Rattle.page_file.specs.Pages.{has, are_pages}
use Rattle.page_file.proofs.Apart.{has-append, put_apart}
use Rattle.page_file.proofs.Crowded.{one_is_free}
use Rattle.page_file.proofs.GapLemmas.{has_bottom, none_above, none_below}

taken_by : (m : ℕ) (h : Bool) → 2 ≤ m → false ≡ (nat_le 2 m && not h) → h ≡ true
taken_by m h behind is = grind (arith, nat_tests)

-- where few pages are used, there are ranges
pub some_free : (pages : List ℕ) (gaps : List Gap) → AreOthers pages gaps → length pages < 4294967294 → 0 < length gaps
some_free pages [] others few =
    absurd (one_is_free 2 pages (λ m behind below. taken_by m (has m pages) behind (others.free m (omega (arith, below, few)))))
some_free pages (g ∷ gaps) others few = omega arith

parts : (m : ℕ) (h : Bool) → true ≡ (nat_le 2 m && not h) → (2 ≤ m) × (h ≡ false)
parts m true is = absurd (grind (arith, nat_tests))
parts m false is = (grind (arith, nat_tests), refl)

-- the lowest page of the ranges is below the numbers' end
pub lowest_below : (gaps : List Gap) → are_falling 4294967296 gaps ≡ true → 0 < length gaps → bottom 4294967296 gaps < 4294967296
lowest_below gaps falls some = elim (cases_lt (bottom 4294967296 gaps) 4294967296) [
  | inl below ↦ below
  | inr above ↦
      let there = has_bottom 4294967296 gaps falls some in
      let none = none_above 4294967296 (bottom 4294967296 gaps) gaps falls above in
      absurd cc
]

-- and it is the lowest free one
pub lowest_is : (pages : List ℕ) (gaps : List Gap) → AreOthers pages gaps → 0 < length gaps → IsLowestFree pages (bottom 4294967296 gaps)
lowest_is pages gaps others some =
    let below = lowest_below gaps others.falling some in
    let at = parts (bottom 4294967296 gaps) (has (bottom 4294967296 gaps) pages)
    (sym (has_bottom 4294967296 gaps others.falling some) ∙ others.free (bottom 4294967296 gaps) below) in
    record {
      behind = at.0;
      free = at.1;
      lowest = λ m behind under.
          taken_by m (has m pages) behind (sym (none_below 4294967296 m gaps others.falling under) ∙ others.free m (omega (arith, under, below)));
    }

-- among some, one more and others
pub has_one_more : (m n : ℕ) (fs used : List ℕ) → has m ((fs ++ n ∷ []) ++ used) ≡ (has m (fs ++ used) || m == n)
has_one_more m n fs used =
    has-append m (fs ++ n ∷ []) used ∙ ap (λ b. b || has m used) (has-append m fs (n ∷ []))
    ∙ turned (has m fs) (m == n) (has m used) ∙ ap (λ b. b || m == n) (sym (has-append m fs used))
  where
    turned : (x y z : Bool) → ((x || (y || false)) || z) ≡ ((x || z) || y)
    turned true y z = refl
    turned false true true = refl
    turned false true false = refl
    turned false false true = refl
    turned false false false = refl

first_part : (m : ℕ) (fs used : List ℕ) → has m (fs ++ used) ≡ false → (has m fs ≡ false) × (has m used ≡ false)
first_part m fs used lacks = both (has m fs) (has m used) (sym (has-append m fs used) ∙ lacks)
  where
    both : (a b : Bool) → (a || b) ≡ false → (a ≡ false) × (b ≡ false)
    both true b is = absurd cc
    both false b is = (refl, is)

-- one free page less is one used page more
pub others_less : (fs used : List ℕ) (gaps new : List Gap) (n : ℕ) → AreOthers (fs ++ used) gaps → in_gaps n gaps ≡ true → n < 4294967296
    → are_falling 4294967296 new ≡ true → ((m : ℕ) → in_gaps m new ≡ (in_gaps m gaps && not (m == n))) → AreOthers ((fs ++ n ∷ []) ++ used) new
others_less fs used gaps new n others there below falls left =
    let at = parts n (has n (fs ++ used)) (sym there ∙ others.free n below) in
    let lacks = first_part n fs used at.1 in
    record {
      apart = ap are_pages (append_assoc fs (n ∷ []) used) ∙ put_apart n fs used others.apart at.0 lacks.0 lacks.1;
      falling = falls;
      free = λ m within.
          left m ∙ ap (λ b. b && not (m == n)) (others.free m within) ∙ fewer (nat_le 2 m) (has m (fs ++ used)) (m == n)
          ∙ ap (λ b. nat_le 2 m && not b) (sym (has_one_more m n fs used));
    }
  where
    fewer : (x y z : Bool) → ((x && not y) && not z) ≡ (x && not (y || z))
    fewer true true z = refl
    fewer true false z = refl
    fewer false y z = refl

-- one lowest page more
pub lowest_more : (used found : List ℕ) (n : ℕ) → AreLowest used found → ((m : ℕ) → 2 ≤ m → m < n → has m (found ++ used) ≡ true)
    → AreLowest used (found ++ n ∷ [])
lowest_more used found n so_far before = λ k m within behind under. elim (cases_lt k (length found)) [
  | inl early ↦
      rw (take-append-le k found (n ∷ []) (omega (arith, early)))
      (so_far k m early behind (rw (get_or_append_left found (n ∷ []) 0 k early) at under))
  | inr late ↦ at_end k m within late behind under
]
  where
    at_end : (k m : ℕ) → k < length (found ++ n ∷ []) → length found ≤ k → 2 ≤ m → m < get_or (found ++ n ∷ []) k 0
        → has m (take k (found ++ n ∷ []) ++ used) ≡ true
    at_end k m within late behind under =
        let place : length found ≡ k = omega (arith, within, late, length-append found (n ∷ [])) in
        let is : get_or (found ++ n ∷ []) k 0 ≡ n = ap (λ j. get_or (found ++ n ∷ []) j 0) (sym place) ∙ last found in
        let front : take k (found ++ n ∷ []) ≡ found = take_at found (n ∷ []) k place in
        rw (front) (before m behind (rw (is) at under))
      where
        last : (fs : List ℕ) → get_or (fs ++ n ∷ []) (length fs) 0 ≡ n
        last [] = refl
        last (f ∷ fs) = last fs
