-- What holds of every clock: its counts, and the order of its entries.
use Rattle.std.proofs.Common.{◌≡◌, ◌≢◌, ℕ, zero, suc, ◌+◌, ◌≤◌, ◌<◌, ◌==◌, Bool, true, false}
use Rattle.std.proofs.Common.{nat_lt, if◌then◌else◌, List, [], ◌∷◌, length, get_or, drop, refl, sym}
use Rattle.std.proofs.Common.{◌∙◌, ap, ⊎_elim, arith}
use Rattle.std.proofs.Math.ListN.{set}
use Rattle.std.specs.List.{insert}
use Rattle.std.proofs.lemmas.Bool.{false_from_ne_true, cases_Bool}
use Rattle.std.proofs.lemmas.Bool.Decides.{nat_tests}
use Rattle.op_ids.specs.Clock.{count_of, advanced, with_count, place_of, is_rising_above, is_clock}

-- what a rising list says of its first entry and of the rest
pub record Parts (low : ℕ) (e : ℕ × ℕ) (es : List (ℕ × ℕ)) : Type 0 where
  pub above : low < e.0
  pub counted : 1 ≤ e.1
  pub in_range : e.1 ≤ 16777216
  pub rest : is_rising_above e.0 es ≡ true

pub rising_parts : (low : ℕ) (e : ℕ × ℕ) (es : List (ℕ × ℕ)) → is_rising_above low (e ∷ es) ≡ true → Parts low e es
rising_parts low e es h =
    record { above = grind (arith, nat_tests); counted = grind (arith, nat_tests); in_range = grind (arith, nat_tests); rest = grind (arith, nat_tests) }

-- an entry before a rising list
pub rising_cons : (low : ℕ) (e : ℕ × ℕ) (es : List (ℕ × ℕ)) → low < e.0 → 1 ≤ e.1 → e.1 ≤ 16777216 → is_rising_above e.0 es ≡ true → is_rising_above low (e ∷ es) ≡ true
rising_cons low e es a b c d = grind (arith, nat_tests)

-- a rising list rises from above each lower bound
pub rising_lower : (es : List (ℕ × ℕ)) (low high : ℕ) → low ≤ high → is_rising_above high es ≡ true → is_rising_above low es ≡ true
rising_lower [] low high le h = refl
rising_lower (e ∷ es) low high le h =
    let p = rising_parts high e es h in
    rising_cons low e es (omega arith) p.counted p.in_range p.rest

-- no replica up to the bound is counted
pub count_of-low : (es : List (ℕ × ℕ)) (low r : ℕ) → is_rising_above low es ≡ true → r ≤ low → count_of es r ≡ 0
count_of-low [] low r h le = refl
count_of-low (e ∷ es) low r h le =
    let p = rising_parts low e es h in
    let rest = count_of-low es e.0 r p.rest (omega arith) in
    grind (arith, nat_tests)

-- no count is above 2^24
pub count_of_at_most : (es : List (ℕ × ℕ)) (low r : ℕ) → is_rising_above low es ≡ true → count_of es r ≤ 16777216
count_of_at_most [] low r h = omega arith
count_of_at_most (e ∷ es) low r h =
    let p = rising_parts low e es h in
    let rest = count_of_at_most es e.0 r p.rest in
    grind (arith, nat_tests)

-- a count that is set is that one
pub count_of-with_count : (es : List (ℕ × ℕ)) (r n : ℕ) → count_of (with_count es r n) r ≡ n
count_of-with_count [] r n = grind (arith, nat_tests)
count_of-with_count (e ∷ es) r n =
    let rest = count_of-with_count es r n in
    grind (arith, nat_tests)

-- setting a count changes no other
pub count_of-with_count_other : (es : List (ℕ × ℕ)) (r n q : ℕ) → q ≢ r → count_of (with_count es r n) q ≡ count_of es q
count_of-with_count_other [] r n q ne = grind (arith, nat_tests)
count_of-with_count_other (e ∷ es) r n q ne =
    let rest = count_of-with_count_other es r n q ne in
    grind (arith, nat_tests)

-- the entries still rise
pub rising-with_count : (es : List (ℕ × ℕ)) (low r n : ℕ) → is_rising_above low es ≡ true → low < r → 1 ≤ n → n ≤ 16777216 → is_rising_above low (with_count es r n) ≡ true
rising-with_count [] low r n h a b c = grind (arith, nat_tests)
rising-with_count (e ∷ es) low r n h a b c =
    let p = rising_parts low e es h in
    let rest : e.0 < r → is_rising_above e.0 (with_count es r n) ≡ true = λ d. rising-with_count es e.0 r n p.rest d b c in
    grind (arith, nat_tests)

-- an entry more exactly where the replica wasn't counted
pub length-with_count : (es : List (ℕ × ℕ)) (low r n : ℕ) → is_rising_above low es ≡ true → length (with_count es r n) ≡ length es + (if count_of es r == 0 then 1 else 0)
length-with_count [] low r n h = grind (arith, nat_tests)
length-with_count (e ∷ es) low r n h =
    let p = rising_parts low e es h in
    let rest = length-with_count es e.0 r n p.rest in
    let none : r ≤ e.0 → count_of es r ≡ 0 = count_of-low es e.0 r p.rest in
    grind (arith, nat_tests)

-- one more operation sets the count one higher
pub advanced-set : (es : List (ℕ × ℕ)) (low r : ℕ) → is_rising_above low es ≡ true → advanced es r ≡ with_count es r (count_of es r + 1)
advanced-set [] low r h = refl
advanced-set (e ∷ es) low r h =
    let p = rising_parts low e es h in
    let rest = advanced-set es e.0 r p.rest in
    let none : r ≤ e.0 → count_of es r ≡ 0 = count_of-low es e.0 r p.rest in
    grind (arith, nat_tests)

-- the place of a replica is in the list or at its end
pub place_of_at_most : (es : List (ℕ × ℕ)) (r : ℕ) → place_of es r ≤ length es
place_of_at_most [] r = omega arith
place_of_at_most (e ∷ es) r =
    let rest = place_of_at_most es r in
    grind (arith, nat_tests)

-- a counted replica: the entry at its place is written
pub with_count-counted : (es : List (ℕ × ℕ)) (r n p : ℕ) (d : ℕ × ℕ) → p ≡ place_of es r → p < length es → (get_or es p d).0 ≡ r → with_count es r n ≡ set es p (r, n)
with_count-counted [] r n p d at lt same = absurd (omega arith)
with_count-counted (e ∷ es) r n zero d at lt same = grind (arith, nat_tests)
with_count-counted (e ∷ es) r n (suc p) d at lt same =
    let rest : p ≡ place_of es r → p < length es → (get_or es p d).0 ≡ r → with_count es r n ≡ set es p (r, n) = with_count-counted es r n p d in
    grind (arith, nat_tests)

-- any other replica: an entry is put at its place
pub with_count-missing : (es : List (ℕ × ℕ)) (r n p : ℕ) (d : ℕ × ℕ) → p ≡ place_of es r → (p < length es → (get_or es p d).0 ≢ r) → with_count es r n ≡ insert es p (r, n)
with_count-missing [] r n p d at other = grind (arith, nat_tests)
with_count-missing (e ∷ es) r n zero d at other = grind (arith, nat_tests)
with_count-missing (e ∷ es) r n (suc p) d at other =
    let rest : p ≡ place_of es r → (p < length es → (get_or es p d).0 ≢ r) → with_count es r n ≡ insert es p (r, n) = with_count-missing es r n p d in
    grind (arith, nat_tests)

-- a replica whose entry isn't at its place isn't counted
pub missing-at_place : (es : List (ℕ × ℕ)) (low r p : ℕ) (d : ℕ × ℕ) → is_rising_above low es ≡ true → p ≡ place_of es r → (p < length es → (get_or es p d).0 ≢ r) → count_of es r ≡ 0
missing-at_place [] low r p d h at other = refl
missing-at_place (e ∷ es) low r zero d h at other =
    let parts = rising_parts low e es h in
    let none : r ≤ e.0 → count_of es r ≡ 0 = count_of-low es e.0 r parts.rest in
    grind (arith, nat_tests)
missing-at_place (e ∷ es) low r (suc p) d h at other =
    let parts = rising_parts low e es h in
    let rest : p ≡ place_of es r → (p < length es → (get_or es p d).0 ≢ r) → count_of es r ≡ 0 = missing-at_place es e.0 r p d parts.rest in
    grind (arith, nat_tests)

-- the entries of a clock rise, and are at most 16
pub is_clock_parts : (es : List (ℕ × ℕ)) → is_clock es ≡ true → (is_rising_above 0 es ≡ true) × (length es ≤ 16)
is_clock_parts es h = (grind (arith, nat_tests), grind (arith, nat_tests))

-- entries that rise, at most 16, are a clock's
pub is_clock_made : (es : List (ℕ × ℕ)) → is_rising_above 0 es ≡ true → length es ≤ 16 → is_clock es ≡ true
is_clock_made es rising fits = grind (arith, nat_tests)

-- a list with a count above 2^24 doesn't rise
pub is_clock-too_many : (es : List (ℕ × ℕ)) (r : ℕ) → 16777216 < count_of es r → is_clock es ≡ false
is_clock-too_many es r above =
    false_from_ne_true (is_clock es) (λ (h : is_clock es ≡ true). let parts = is_clock_parts es h in omega (arith, count_of_at_most es 0 r parts.0))

-- a list of more than 16 entries is no clock's
pub is_clock-too_long : (es : List (ℕ × ℕ)) → 16 < length es → is_clock es ≡ false
is_clock-too_long es above =
    false_from_ne_true (is_clock es) (λ (h : is_clock es ≡ true). let parts = is_clock_parts es h in omega (arith, parts.1))

-- a set count from 1 to 2^24 leaves a clock where there is room for its replica
pub is_clock-with_count : (es : List (ℕ × ℕ)) (r n : ℕ) → is_clock es ≡ true → 0 < r → 1 ≤ n → n ≤ 16777216 → (count_of es r ≡ 0 → length es < 16) → is_clock (with_count es r n) ≡ true
is_clock-with_count es r n h positive low high room =
    let parts = is_clock_parts es h in
    let rising = rising-with_count es 0 r n parts.0 positive low high in
    let size = length-with_count es 0 r n parts.0 in
    let at_most = parts.1 in
    let fits : length (with_count es r n) ≤ 16 = grind (arith, nat_tests) in
    is_clock_made (with_count es r n) rising fits

-- whether one more operation can be counted
abbrev fits_one_more : List (ℕ × ℕ) → ℕ → Bool
fits_one_more es r = if count_of es r == 0 then nat_lt (length es) 16 else nat_lt (count_of es r) 16777216

-- there is room: both sides are true
advanced_fits : (es : List (ℕ × ℕ)) (r : ℕ) → is_clock es ≡ true → 0 < r → fits_one_more es r ≡ true → is_clock (advanced es r) ≡ true
advanced_fits es r h positive room =
    let parts = is_clock_parts es h in
    let below : count_of es r + 1 ≤ 16777216 = grind (arith, nat_tests) in
    let free : count_of es r ≡ 0 → length es < 16 = grind (arith, nat_tests) in
    let fits = is_clock-with_count es r (count_of es r + 1) h positive (omega arith) below free in
    ap is_clock (advanced-set es 0 r parts.0) ∙ fits

-- there is none: both sides are false
advanced_is_full : (es : List (ℕ × ℕ)) (r : ℕ) → is_clock es ≡ true → fits_one_more es r ≡ false → is_clock (advanced es r) ≡ false
advanced_is_full es r h full =
    let parts = is_clock_parts es h in
    let same = advanced-set es 0 r parts.0 in
    let size = length-with_count es 0 r (count_of es r + 1) parts.0 in
    let count = count_of-with_count es r (count_of es r + 1) in
    let at_most = count_of_at_most es 0 r parts.0 in
    let long = is_clock-too_long (with_count es r (count_of es r + 1)) in
    let many = is_clock-too_many (with_count es r (count_of es r + 1)) r in
    ap is_clock same ∙ grind (arith, nat_tests)

-- one more operation leaves a clock exactly where there is room for it
pub is_clock-advanced : (es : List (ℕ × ℕ)) (r : ℕ) → is_clock es ≡ true → 0 < r → is_clock (advanced es r) ≡ (if count_of es r == 0 then nat_lt (length es) 16 else nat_lt (count_of es r) 16777216)
is_clock-advanced es r h positive =
    let fits = advanced_fits es r h positive in
    let full = advanced_is_full es r h in
    ⊎_elim (λ (yes : fits_one_more es r ≡ true). fits yes ∙ sym yes) (λ (no : fits_one_more es r ≡ false). full no ∙ sym no) (cases_Bool (fits_one_more es r))

-- one more operation, as a set count
pub advanced_as_set : (es : List (ℕ × ℕ)) (r : ℕ) → is_clock es ≡ true → advanced es r ≡ with_count es r (count_of es r + 1)
advanced_as_set es r h = let parts = is_clock_parts es h in advanced-set es 0 r parts.0

-- a clock's counts are at most 2^24
pub count_limit : (es : List (ℕ × ℕ)) (r : ℕ) → is_clock es ≡ true → count_of es r ≤ 16777216
count_limit es r h = let parts = is_clock_parts es h in count_of_at_most es 0 r parts.0

-- the rest of a rising list rises
pub rising-drop : (es : List (ℕ × ℕ)) (i low : ℕ) → is_rising_above low es ≡ true → is_rising_above low (drop i es) ≡ true
rising-drop es zero low h = h
rising-drop [] (suc i) low h = refl
rising-drop (e ∷ es) (suc i) low h =
    let p = rising_parts low e es h in
    rising-drop es i low (rising_lower es low e.0 (omega (arith, p.above)) p.rest)

-- one more operation raises its replica's count by one
pub count_of-advanced : (es : List (ℕ × ℕ)) (r : ℕ) → is_clock es ≡ true → count_of (advanced es r) r ≡ count_of es r + 1
count_of-advanced es r h = ap (λ x. count_of x r) (advanced_as_set es r h) ∙ count_of-with_count es r (count_of es r + 1)

-- and changes no other
pub count_of-advanced_other : (es : List (ℕ × ℕ)) (r q : ℕ) → q ≢ r → count_of (advanced es r) q ≡ count_of es q
count_of-advanced_other [] r q ne = grind (arith, nat_tests)
count_of-advanced_other (e ∷ es) r q ne =
    let rest = count_of-advanced_other es r q ne in
    grind (arith, nat_tests)

-- the entries still rise, up to 2^24 operations
pub rising-advanced : (es : List (ℕ × ℕ)) (r : ℕ) → is_clock es ≡ true → 0 < r → count_of es r < 16777216 → is_rising_above 0 (advanced es r) ≡ true
rising-advanced es r h positive below =
    let parts = is_clock_parts es h in
    ap (is_rising_above 0) (advanced_as_set es r h) ∙ rising-with_count es 0 r (count_of es r + 1) parts.0 positive (omega arith) (omega arith)
