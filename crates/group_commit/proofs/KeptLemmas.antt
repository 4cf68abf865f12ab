-- How many pages stay where a stream grows, and that the others change.
use Rattle.std.proofs.Common.{◌≡◌, ◌≢◌, ◌⊎◌, ℕ, zero, suc, ◌+◌, ◌-◌, ◌*◌, ◌/◌, ◌<◌, ◌≤◌, Bool, true}
use Rattle.std.proofs.Common.{false, List, [], ◌∷◌, ◌++◌, length, get_or, take, drop, refl, sym, ap}
use Rattle.std.proofs.Common.{◌∙◌, inl, inr, arith, length-append, length-take, if◌then◌else◌}
use Rattle.std.specs.Prelude.{replicate}
use Rattle.std.proofs.Math.Seq.{take-add}
use Rattle.std.proofs.lemmas.Bool.{cases_lt}
use Rattle.std.proofs.lemmas.List.{take-take, take_all, take-append-le, get_or-take, get_or-drop, get_or_append_left, get_or-append_right, get_or-replicate}
use Rattle.page_file.specs.Pages.{has, is_zero}
use Rattle.page_file.proofs.Apart.{has_each}
use Rattle.root_slots.specs.Root.{pages_for}
use Rattle.group_commit.specs.Plan.{kept_of}
use Rattle.group_commit.proofs.CutLemmas.{Stays}
use Rattle.group_commit.proofs.ZeroLemmas.{same_zeros, zeros_same}

pub pages_hold : (n : ℕ) → n ≤ 4096 * pages_for 4096 n
pages_hold n = omega arith

pub pages_near : (n : ℕ) → 4096 * pages_for 4096 n < n + 4096
pages_near n = omega arith

pub pages_most : (n : ℕ) → n ≤ 1073741824 → pages_for 4096 n ≤ 262144
pages_most n most = omega (arith, most)

-- all of p pages stay, and what comes into the rest of the last one is zero
pub record AllStay (long p : ℕ) (r : List ℕ) (kept : ℕ) : Type 0 where
  pub all : kept ≡ p
  pub zeros : is_zero (take (4096 * p - long) r) ≡ true

-- or the last one doesn't, and it isn't
pub record LastChanges (long p : ℕ) (r : List ℕ) (kept : ℕ) : Type 0 where
  pub others : p ≡ kept + 1
  pub not_zeros : is_zero (take (4096 * p - long) r) ≡ false

pub kept_is : (long : ℕ) (r : List ℕ) (kept : ℕ) → kept ≡ kept_of long r → AllStay long (pages_for 4096 long) r kept ⊎ LastChanges long (pages_for 4096 long) r kept
kept_is long r kept is = by_test (is_zero (take (4096 * pages_for 4096 long - long) r)) refl is
  where
    zero_take : (k : ℕ) (r : List ℕ) → k ≡ 0 → is_zero (take k r) ≡ true
    zero_take k r none = ap (λ n. is_zero (take n r)) none

    some_pages : (p : ℕ) → is_zero (take (4096 * p - long) r) ≡ false → 0 < p
    some_pages zero not_zeros = let is : is_zero (take (4096 * 0 - long) r) ≡ true = zero_take (4096 * 0 - long) r (omega arith) in absurd cc
    some_pages (suc p) not_zeros = omega arith

    by_test : (t : Bool) → is_zero (take (4096 * pages_for 4096 long - long) r) ≡ t → kept ≡ (if t then pages_for 4096 long else pages_for 4096 long - 1)
        → AllStay long (pages_for 4096 long) r kept ⊎ LastChanges long (pages_for 4096 long) r kept
    by_test true zeros is = inl (record { all = is; zeros = zeros })
    by_test false zeros is = inr (record { others = omega (arith, is, some_pages (pages_for 4096 long) zeros); not_zeros = zeros })

-- bytes of which some aren't zero are some bytes
pub some_bytes : (r : List ℕ) → is_zero r ≡ false → 0 < length r
some_bytes [] some = absurd cc
some_bytes (x ∷ xs) some = omega arith

-- bytes of which some aren't zero go on behind the pages that stay
pub more_pages : (long : ℕ) (r : List ℕ) (kept : ℕ) → kept ≡ kept_of long r → is_zero r ≡ false → 4096 * kept < long + length r
more_pages long r kept is some = elim (kept_is long r kept is) [
  | inl stay ↦ elim (cases_lt (4096 * pages_for 4096 long - long) (length r)) [
    | inl below ↦ omega (arith, below, stay.all)
    | inr above ↦
        let all : take (4096 * pages_for 4096 long - long) r ≡ r = take_all (4096 * pages_for 4096 long - long) r above in
        let zero_all : is_zero r ≡ true = ap is_zero (sym all) ∙ stay.zeros in
        absurd cc
  ]
  | inr change ↦ omega (arith, change.others, pages_near long, some_bytes r some)
]

-- how the counts of pages grow
pub record Grows (long n kept : ℕ) : Type 0 where
  pub within : kept ≤ pages_for 4096 long
  pub fits : 4096 * kept ≤ n
  pub grows : kept ≤ pages_for 4096 n
  pub most : kept ≤ 262144

pub grown : (long n : ℕ) (r : List ℕ) (kept : ℕ) → kept ≡ kept_of long r → is_zero r ≡ false → n ≡ long + length r → n ≤ 1073741824 → Grows long n kept
grown long n r kept is some size most =
    let fits : 4096 * kept ≤ n = omega (arith, more_pages long r kept is some, size) in
    let count : kept ≤ pages_for 4096 n = omega (arith, fits, pages_hold n) in
    record {
      within = elim (kept_is long r kept is) [ inl stay ↦ omega (arith, stay.all) | inr change ↦ omega (arith, change.others) ];
      fits = fits;
      grows = count;
      most = omega (arith, count, pages_most n most);
    }

-- the first data pages stay, whatever stands behind both streams
pub data_front : (s r : List ℕ) (kept z z' : ℕ) → kept ≡ kept_of (length s) r → 4096 * pages_for 4096 (length s) ≤ length s + z
    → 4096 * kept ≤ length (s ++ r) + z' → take (4096 * kept) (s ++ replicate z 0) ≡ take (4096 * kept) ((s ++ r) ++ replicate z' 0)
data_front s r kept z z' is room room' = elim (kept_is (length s) r kept is) [
  | inl stay ↦
      rw (stay.all)
      (same_zeros (4096 * pages_for 4096 (length s)) z z' s r (pages_hold (length s)) room (omega (arith, room', stay.all)) stay.zeros)
  | inr change ↦
      let within : 4096 * kept ≤ length s = omega (arith, change.others, pages_near (length s)) in
      let within' : 4096 * kept ≤ length (s ++ r) = omega (arith, within, length-append s r) in
      take-append-le (4096 * kept) s (replicate z 0) within
      ∙ sym (take-append-le (4096 * kept) (s ++ r) (replicate z' 0) within' ∙ take-append-le (4096 * kept) s r within)
]

not_both : (t : Bool) → t ≡ true → t ≡ false → ⊥
not_both t is isnt = absurd cc

pub data_stays : (s r : List ℕ) (kept : ℕ) → kept ≡ kept_of (length s) r
    → Stays 4096 kept (pages_for 4096 (length s)) (s ++ replicate 4096 0) ((s ++ r) ++ replicate 4096 0)
data_stays s r kept is = stays_with 4096 s r kept is (omega (arith, pages_near (length s))) (omega arith)
  where
    near_both : (long : ℕ) (r : List ℕ) (kept : ℕ) → kept ≡ kept_of long r → (kept ≤ pages_for 4096 long) × (pages_for 4096 long ≤ kept + 1)
    near_both long r kept is = elim (kept_is long r kept is) [
      | inl stay ↦ (omega (arith, stay.all), omega (arith, stay.all))
      | inr change ↦ (omega (arith, change.others), omega (arith, change.others))
    ]

    stays_with : (z : ℕ) (s r : List ℕ) (kept : ℕ) → kept ≡ kept_of (length s) r → 4096 * pages_for 4096 (length s) ≤ length s + z → 4096 ≤ z
        → Stays 4096 kept (pages_for 4096 (length s)) (s ++ replicate z 0) ((s ++ r) ++ replicate z 0)
    stays_with z s r kept is room wide =
        let near = near_both (length s) r kept is in
        record {
          within = near.0;
          near = near.1;
          same = data_front s r kept z z is room (omega (arith, near.0, room, length-append s r));
          differs = λ below alike. elim (kept_is (length s) r kept is) [
            | inl stay ↦ omega (arith, stay.all, below)
            | inr change ↦
                let place : 4096 * kept + 4096 ≡ 4096 * pages_for 4096 (length s) = omega (arith, change.others) in
                let front = data_front s r kept z z is room (omega (arith, near.0, room, length-append s r)) in
                let both : take (4096 * kept + 4096) (s ++ replicate z 0) ≡ take (4096 * kept + 4096) ((s ++ r) ++ replicate z 0) =
                take-add (4096 * kept) 4096 (s ++ replicate z 0) ∙ ap (λ f. f ++ take 4096 (drop (4096 * kept) (s ++ replicate z 0))) front
                ∙ ap (λ l. take (4096 * kept) ((s ++ r) ++ replicate z 0) ++ l) alike ∙ sym (take-add (4096 * kept) 4096 ((s ++ r) ++ replicate z 0)) in
                let zeros = zeros_same (4096 * pages_for 4096 (length s)) z z s r (pages_hold (length s)) room (rw (place) at both) in
                not_both (is_zero (take (4096 * pages_for 4096 (length s) - length s) r)) zeros change.not_zeros
          ];
        }

-- the first table pages stay where the first data pages do, and the next one names a new page
pub tables_stay : (olds news : List ℕ) (kept : ℕ) → kept ≤ length olds → length olds ≤ kept + 1 → 0 < length news → has (get_or news 0 0) olds ≡ false
    → 2 ≤ get_or news 0 0
    → Stays 1024 (kept / 1024) (pages_for 1024 (length olds)) (olds ++ replicate 1024 0) ((take kept olds ++ news) ++ replicate 1024 0)
tables_stay olds news kept within near some lacks behind = stays_with 1024 (omega arith)
  where
    first_new : (z : ℕ) → get_or ((take kept olds ++ news) ++ replicate z 0) kept 0 ≡ get_or news 0 0
    first_new z =
        let front : length (take kept olds) ≡ kept = omega (arith, length-take kept olds, within) in
        let there : kept < length (take kept olds ++ news) = omega (arith, length-append (take kept olds) news, front, some) in
        let none : kept - kept ≡ 0 = omega arith in
        get_or_append_left (take kept olds ++ news) (replicate z 0) 0 kept there
        ∙ get_or-append_right (take kept olds) news kept kept 0 front (omega arith) ∙ ap (λ i. get_or news i 0) none

    other : (z : ℕ) → 0 < z → get_or (olds ++ replicate z 0) kept 0 ≢ get_or news 0 0
    other z some_zeros same = elim (cases_lt kept (length olds)) [
      | inl old ↦
          let there : has (get_or news 0 0) olds ≡ true =
          ap (λ n. has n olds) (sym same ∙ get_or_append_left olds (replicate z 0) 0 kept old) ∙ has_each olds kept old in
          absurd cc
      | inr end ↦
          let zero_there : get_or (olds ++ replicate z 0) kept 0 ≡ 0 =
          get_or-append_right olds (replicate z 0) (length olds) kept 0 refl end ∙ get_or-replicate z (kept - length olds) 0 0 (omega (arith, within, some_zeros)) in
          omega (arith, same, zero_there, behind)
    ]

    at_place : (xs : List ℕ) → get_or (take 1024 (drop (1024 * (kept / 1024)) xs)) (kept - 1024 * (kept / 1024)) 0 ≡ get_or xs kept 0
    at_place xs =
        let place : 1024 * (kept / 1024) + (kept - 1024 * (kept / 1024)) ≡ kept = omega arith in
        get_or-take 1024 (drop (1024 * (kept / 1024)) xs) (kept - 1024 * (kept / 1024)) 0 (omega arith)
        ∙ get_or-drop (1024 * (kept / 1024)) xs (kept - 1024 * (kept / 1024)) 0 ∙ ap (λ i. get_or xs i 0) place

    stays_with : (z : ℕ) → 1024 ≤ z
        → Stays 1024 (kept / 1024) (pages_for 1024 (length olds)) (olds ++ replicate z 0) ((take kept olds ++ news) ++ replicate z 0)
    stays_with z wide =
        let first : 1024 * (kept / 1024) ≤ kept = omega arith in
        let front : length (take kept olds) ≡ kept = omega (arith, length-take kept olds, within) in
        record {
          within = omega (arith, within);
          near = omega (arith, near);
          same = take-append-le (1024 * (kept / 1024)) olds (replicate z 0) (omega (arith, first, within))
              ∙ sym (take-append-le (1024 * (kept / 1024)) (take kept olds ++ news) (replicate z 0) (omega (arith, first, front, length-append (take kept olds) news))
              ∙ take-append-le (1024 * (kept / 1024)) (take kept olds) news (omega (arith, first, front)) ∙ take-take (1024 * (kept / 1024)) kept olds first);
          differs = λ below alike. other z (omega (arith, wide)) (
              sym (at_place (olds ++ replicate z 0)) ∙ ap (λ p. get_or p (kept - 1024 * (kept / 1024)) 0) alike
              ∙ at_place ((take kept olds ++ news) ++ replicate z 0) ∙ first_new z
              );
        }
