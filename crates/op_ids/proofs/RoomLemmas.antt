-- Clocks that are advanced by several operations of one replica.
use Rattle.std.proofs.Common.{◌≡◌, ℕ, zero, suc, ◌+◌, ◌≤◌, ◌<◌, ◌&&◌, Bool, true, false, nat_lt, List, [], ◌∷◌, length, refl, ◌∙◌, ap, inl, inr, arith}
use Rattle.std.specs.Prelude.{nat_le, ◌||◌}
use Rattle.std.proofs.lemmas.Bool.{cases_Bool, both_ways}
use Rattle.std.proofs.lemmas.Bool.Decides.{nat_tests}
use Rattle.op_ids.specs.Clock.{count_of, with_count, advanced, advanced_by, is_clock, is_rising_above, IsOverfull}
use Rattle.op_ids.proofs.ClockLemmas.{is_clock-advanced, is_clock_parts, is_clock-too_long}
use Rattle.op_ids.proofs.ClockLemmas.{is_clock-too_many, rising_parts, count_of-advanced}
use Rattle.op_ids.proofs.ClockLemmas.{advanced_as_set, advanced-set, length-with_count}
use Rattle.op_ids.proofs.FullLemmas.{length-le-advanced, count_of-le-total}

-- the replicas rise from above a number, whatever the counts
abbrev is_up : ℕ → List (ℕ × ℕ) → Bool
is_up low [] = true
is_up low (e ∷ es) = nat_lt low e.0 && is_up e.0 es

up_from_rising : (es : List (ℕ × ℕ)) (low : ℕ) → is_rising_above low es ≡ true → is_up low es ≡ true
up_from_rising [] low rising = refl
up_from_rising (e ∷ es) low rising =
    let p = rising_parts low e es rising in
    let above = p.above in
    let rest = up_from_rising es e.0 p.rest in
    grind (arith, nat_tests)

up_rest : (low : ℕ) (e : ℕ × ℕ) (es : List (ℕ × ℕ)) → is_up low (e ∷ es) ≡ true → (low < e.0) × (is_up e.0 es ≡ true)
up_rest low e es up = (grind (arith, nat_tests), grind (arith, nat_tests))

up-advanced : (es : List (ℕ × ℕ)) (low r : ℕ) → is_up low es ≡ true → low < r → is_up low (advanced es r) ≡ true
up-advanced [] low r up below = grind (arith, nat_tests)
up-advanced (e ∷ es) low r up below =
    let p = up_rest low e es up in
    let first = p.0 in
    let others = p.1 in
    let rest : e.0 < r → is_up e.0 (advanced es r) ≡ true = up-advanced es e.0 r p.1 in
    grind (arith, nat_tests)

count_of-up : (es : List (ℕ × ℕ)) (low r : ℕ) → is_up low es ≡ true → r ≤ low → count_of es r ≡ 0
count_of-up [] low r up within = refl
count_of-up (e ∷ es) low r up within =
    let p = up_rest low e es up in
    let above = p.0 in
    let rest = count_of-up es e.0 r p.1 (omega arith) in
    grind (arith, nat_tests)

-- one more operation raises its replica's count by one
count_more : (es : List (ℕ × ℕ)) (low r : ℕ) → is_up low es ≡ true → count_of (advanced es r) r ≡ count_of es r + 1
count_more [] low r up = grind (arith, nat_tests)
count_more (e ∷ es) low r up =
    let p = up_rest low e es up in
    let rest = count_more es e.0 r p.1 in
    let none : r ≤ e.0 → count_of es r ≡ 0 = count_of-up es e.0 r p.1 in
    grind (arith, nat_tests)

count_of-advanced_by : (es : List (ℕ × ℕ)) (r n : ℕ) → is_up 0 es ≡ true → 0 < r → count_of (advanced_by es r n) r ≡ count_of es r + n
count_of-advanced_by es r zero up positive = omega arith
count_of-advanced_by es r (suc n) up positive =
    let one = count_more es 0 r up in
    let rest = count_of-advanced_by (advanced es r) r n (up-advanced es 0 r up positive) positive in
    omega arith

length-le-advanced_by : (es : List (ℕ × ℕ)) (r n : ℕ) → length es ≤ length (advanced_by es r n)
length-le-advanced_by es r zero = omega arith
length-le-advanced_by es r (suc n) =
    let one = length-le-advanced es r in
    let rest = length-le-advanced_by (advanced es r) r n in
    omega arith

-- there is room for n more operations of a replica
pub record HasRoom (es : List (ℕ × ℕ)) (r n : ℕ) : Type 0 where
  pub replicas : count_of es r ≡ 0 → length es < 16
  pub counts : count_of es r + n ≤ 16777216

is_clock-one_more : (es : List (ℕ × ℕ)) (r n : ℕ) → is_clock es ≡ true → 0 < r → HasRoom es r (suc n) → is_clock (advanced es r) ≡ true
is_clock-one_more es r n valid positive room =
    let rule = is_clock-advanced es r valid positive in
    let counts = room.counts in
    let replicas = room.replicas in
    grind (arith, nat_tests)

-- then the clock with them is one
pub is_clock-room : (es : List (ℕ × ℕ)) (r n : ℕ) → is_clock es ≡ true → 0 < r → HasRoom es r n → is_clock (advanced_by es r n) ≡ true
is_clock-room es r zero valid positive room = valid
is_clock-room es r (suc n) valid positive room =
    let more = count_of-advanced es r valid in
    let counts = room.counts in
    is_clock-room (advanced es r) r n (is_clock-one_more es r n valid positive room) positive
    (record { replicas = λ none. absurd (omega arith); counts = omega arith })

seventeen : (es : List (ℕ × ℕ)) (r : ℕ) → is_clock es ≡ true → count_of es r ≡ 0 → 16 ≤ length es → 16 < length (advanced es r)
seventeen es r valid none many =
    let parts = is_clock_parts es valid in
    let size = ap length (advanced-set es 0 r parts.0) ∙ length-with_count es 0 r (count_of es r + 1) parts.0 in
    grind (arith, nat_tests)

-- a seventeenth replica is too many
pub no_room-replicas : (es : List (ℕ × ℕ)) (r n : ℕ) → is_clock es ≡ true → 0 < r → 0 < n → count_of es r ≡ 0 → 16 ≤ length es
    → (is_clock (advanced_by es r n) ≡ false) × IsOverfull (advanced_by es r n)
no_room-replicas es r zero valid positive some none many = absurd (omega arith)
no_room-replicas es r (suc n) valid positive some none many =
    let long = seventeen es r valid none many in
    let longer = length-le-advanced_by (advanced es r) r n in
    (is_clock-too_long (advanced_by (advanced es r) r n) (omega arith), record { over = inl (omega arith) })

-- so is a count above 2^24
pub no_room-counts : (es : List (ℕ × ℕ)) (r n : ℕ) → is_clock es ≡ true → 0 < r → 16777216 < count_of es r + n
    → (is_clock (advanced_by es r n) ≡ false) × IsOverfull (advanced_by es r n)
no_room-counts es r n valid positive many =
    let up = up_from_rising es 0 (is_clock_parts es valid).0 in
    let counted = count_of-advanced_by es r n up positive in
    let total = count_of-le-total (advanced_by es r n) r in
    (is_clock-too_many (advanced_by es r n) r (omega arith), record { over = inr (omega arith) })

-- no more operations leave a clock as it is
pub no_more : (es : List (ℕ × ℕ)) (r n : ℕ) → is_clock es ≡ true → n ≡ 0 → is_clock (advanced_by es r n) ≡ true
no_more es r n valid none = rw none valid

-- a replica that isn't counted needs a place, and there is one for 16
pub new_replica : (es : List (ℕ × ℕ)) (r n len : ℕ) → is_clock es ≡ true → 0 < r → 0 < n → n ≤ 16777216 → count_of es r ≡ 0 → len ≡ length es
    → (nat_lt len 16 ≡ is_clock (advanced_by es r n)) × (nat_lt len 16 ≡ false → IsOverfull (advanced_by es r n))
new_replica es r n len valid positive some within none long =
    let room : len < 16 → is_clock (advanced_by es r n) ≡ true =
    λ below. is_clock-room es r n valid positive (record { replicas = λ _. omega arith; counts = omega arith }) in
    let full : 16 ≤ len → is_clock (advanced_by es r n) ≡ false =
    λ many. (no_room-replicas es r n valid positive some none (omega arith)).0 in
    (grind (arith, nat_tests), λ many. (no_room-replicas es r n valid positive some none (grind (arith, nat_tests))).1)

-- a clock with n more operations has room for them
pub room_from : (es : List (ℕ × ℕ)) (r n : ℕ) → is_clock es ≡ true → 0 < r → 0 < n → is_clock (advanced_by es r n) ≡ true → HasRoom es r n
room_from es r n valid positive some after = record {
  replicas = λ none. elim (cases_Bool (nat_lt (length es) 16)) [
    | inl few ↦ grind (arith, nat_tests)
    | inr many ↦ absurd (both_ways (is_clock (advanced_by es r n)) (no_room-replicas es r n valid positive some none (grind (arith, nat_tests))).0 after)
  ];
  counts = elim (cases_Bool (nat_le (count_of es r + n) 16777216)) [
    | inl few ↦ grind (arith, nat_tests)
    | inr many ↦ absurd (both_ways (is_clock (advanced_by es r n)) (no_room-counts es r n valid positive (grind (arith, nat_tests))).0 after)
  ];
}

-- then there is room for the first of them
pub first_of_more : (es : List (ℕ × ℕ)) (r n : ℕ) → is_clock es ≡ true → 0 < r → is_clock (advanced_by es r (suc n)) ≡ true → is_clock (advanced es r) ≡ true
first_of_more es r n valid positive after = is_clock-one_more es r n valid positive (room_from es r (suc n) valid positive (omega arith) after)

-- and for fewer
pub fewer_fit : (es : List (ℕ × ℕ)) (r m n : ℕ) → is_clock es ≡ true → 0 < r → m ≤ n → is_clock (advanced_by es r n) ≡ true → is_clock (advanced_by es r m) ≡ true
fewer_fit es r zero n valid positive within after = valid
fewer_fit es r (suc m) zero valid positive within after = absurd (omega arith)
fewer_fit es r (suc m) (suc n) valid positive within after =
    fewer_fit (advanced es r) r m n (first_of_more es r n valid positive after) positive (omega arith) after

-- a count that is set twice is the later one
set_twice : (es : List (ℕ × ℕ)) (r n m : ℕ) → with_count (with_count es r n) r m ≡ with_count es r m
set_twice [] r n m = grind (arith, nat_tests)
set_twice (e ∷ es) r n m =
    let rest = set_twice es r n m in
    grind (arith, nat_tests)

-- n more operations set the count n higher
pub advanced_by-set : (es : List (ℕ × ℕ)) (r n : ℕ) → is_clock es ≡ true → 0 < r → 0 < n → is_clock (advanced_by es r n) ≡ true
    → advanced_by es r n ≡ with_count es r (count_of es r + n)
advanced_by-set es r zero valid positive some after = absurd (omega arith)
advanced_by-set es r (suc zero) valid positive some after = advanced_as_set es r valid
advanced_by-set es r (suc (suc n)) valid positive some after =
    let first = first_of_more es r (suc n) valid positive after in
    let more = count_of-advanced es r valid in
    let total : count_of (advanced es r) r + suc n ≡ count_of es r + suc (suc n) = omega arith in
    advanced_by-set (advanced es r) r (suc n) first positive (omega arith) after
    ∙ (ap (λ m. with_count (advanced es r) r m) total
    ∙ (ap (λ clock. with_count clock r (count_of es r + suc (suc n))) (advanced_as_set es r valid)
    ∙ set_twice es r (count_of es r + 1) (count_of es r + suc (suc n))))

-- where a clock hasn't room for n more, they are too many
pub overfull_from : (es : List (ℕ × ℕ)) (r n : ℕ) → is_clock es ≡ true → 0 < r → is_clock (advanced_by es r n) ≡ false → IsOverfull (advanced_by es r n)
overfull_from es r zero valid positive full = absurd (both_ways (is_clock es) full valid)
overfull_from es r (suc n) valid positive full =
    elim (cases_Bool (nat_le (count_of es r + suc n) 16777216)) [
      | inl few ↦ elim (cases_Bool (nat_lt 0 (count_of es r) || nat_lt (length es) 16)) [
        | inl place ↦ absurd (both_ways (is_clock (advanced_by es r (suc n))) full (is_clock-room es r (suc n) valid positive
            (record { replicas = λ none. grind (arith, nat_tests); counts = grind (arith, nat_tests) })))
        | inr none ↦ (no_room-replicas es r (suc n) valid positive (omega arith) (grind (arith, nat_tests)) (grind (arith, nat_tests))).1
      ]
      | inr many ↦ (no_room-counts es r (suc n) valid positive (grind (arith, nat_tests))).1
    ]
