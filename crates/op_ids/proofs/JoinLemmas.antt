-- What holds of two clocks that are joined.
use Rattle.std.proofs.Common.{◌≡◌, ◌≢◌, ℕ, ◌+◌, ◌≤◌, ◌<◌, true, nat_le, max, List, [], ◌∷◌, length, refl, ◌∙◌, arith}
use Rattle.std.proofs.lemmas.Bool.Decides.{nat_tests}
use Rattle.op_ids.specs.Clock.{count_of, with_count, joined, missing_from, is_rising_above, is_clock}
use Rattle.op_ids.proofs.ClockLemmas.{rising_parts, count_of-low, count_of_at_most}
use Rattle.op_ids.proofs.ClockLemmas.{count_of-with_count, count_of-with_count_other}
use Rattle.op_ids.proofs.ClockLemmas.{rising-with_count, length-with_count, is_clock_parts}
use Rattle.op_ids.proofs.ClockLemmas.{is_clock_made, is_clock-too_long}

-- the greater of both counts of an entry's replica
abbrev pub greater : List (ℕ × ℕ) → ℕ × ℕ → ℕ
greater clock e = max (count_of clock e.0) e.1

-- a clock with one entry of the other joined in
abbrev pub joined_one : List (ℕ × ℕ) → ℕ × ℕ → List (ℕ × ℕ)
joined_one clock e = with_count clock e.0 (greater clock e)

-- joining one entry in leaves a list that rises
rising-joined_one : (clock : List (ℕ × ℕ)) (low : ℕ) (e : ℕ × ℕ) → is_rising_above low clock ≡ true → low < e.0 → 1 ≤ e.1 → e.1 ≤ 16777216 → is_rising_above low (joined_one clock e) ≡ true
rising-joined_one clock low e h above counted in_range =
    let at_most = count_of_at_most clock low e.0 h in
    rising-with_count clock low e.0 (greater clock e) h above (omega arith) (omega arith)

-- what is joined still rises
pub rising-joined : (es : List (ℕ × ℕ)) (clock : List (ℕ × ℕ)) (low high : ℕ) → low ≤ high → is_rising_above low clock ≡ true → is_rising_above high es ≡ true → is_rising_above low (joined clock es) ≡ true
rising-joined [] clock low high le h k = h
rising-joined (e ∷ es) clock low high le h k =
    let p = rising_parts high e es k in
    rising-joined es (joined_one clock e) low e.0 (omega arith) (rising-joined_one clock low e h (omega arith) p.counted p.in_range) p.rest

-- a replica below all entries that are joined in keeps its count
pub count_of-joined_low : (es : List (ℕ × ℕ)) (clock : List (ℕ × ℕ)) (low r : ℕ) → is_rising_above low es ≡ true → r ≤ low → count_of (joined clock es) r ≡ count_of clock r
count_of-joined_low [] clock low r h le = refl
count_of-joined_low (e ∷ es) clock low r h le =
    let p = rising_parts low e es h in
    let ne : r ≢ e.0 = omega arith in
    count_of-joined_low es (joined_one clock e) e.0 r p.rest (omega arith) ∙ count_of-with_count_other clock e.0 (greater clock e) r ne

-- the counts of what is joined are the greater ones
pub count_of-joined : (es : List (ℕ × ℕ)) (clock : List (ℕ × ℕ)) (low r : ℕ) → is_rising_above low es ≡ true → count_of (joined clock es) r ≡ max (count_of clock r) (count_of es r)
count_of-joined [] clock low r h = omega arith
count_of-joined (e ∷ es) clock low r h =
    let p = rising_parts low e es h in
    let rest = count_of-joined es (joined_one clock e) e.0 r p.rest in
    let none : r ≤ e.0 → count_of es r ≡ 0 = count_of-low es e.0 r p.rest in
    let own = count_of-with_count clock e.0 (greater clock e) in
    let other : r ≢ e.0 → count_of (joined_one clock e) r ≡ count_of clock r = count_of-with_count_other clock e.0 (greater clock e) r in
    grind (arith, nat_tests)

-- a set count of a replica below them changes nothing of what is missing
missing_from-with_count : (es : List (ℕ × ℕ)) (clock : List (ℕ × ℕ)) (low r n : ℕ) → is_rising_above low es ≡ true → r ≤ low → missing_from (with_count clock r n) es ≡ missing_from clock es
missing_from-with_count [] clock low r n h le = refl
missing_from-with_count (e ∷ es) clock low r n h le =
    let p = rising_parts low e es h in
    let ne : e.0 ≢ r = omega (arith, p.above) in
    let same = count_of-with_count_other clock r n e.0 ne in
    let rest = missing_from-with_count es clock e.0 r n p.rest (omega (arith, p.above)) in
    grind (arith, nat_tests)

-- what is joined has an entry more for each replica that was missing
pub length-joined : (es : List (ℕ × ℕ)) (clock : List (ℕ × ℕ)) (low high : ℕ) → low ≤ high → is_rising_above low clock ≡ true → is_rising_above high es ≡ true → length (joined clock es) ≡ length clock + missing_from clock es
length-joined [] clock low high le h k = omega arith
length-joined (e ∷ es) clock low high le h k =
    let p = rising_parts high e es k in
    let rising = rising-joined_one clock low e h (omega arith) p.counted p.in_range in
    let rest = length-joined es (joined_one clock e) low e.0 (omega arith) rising p.rest in
    let one = length-with_count clock low e.0 (greater clock e) h in
    let same = missing_from-with_count es clock e.0 e.0 (greater clock e) p.rest (omega arith) in
    grind (arith, nat_tests)

-- at most all entries of the other are missing
pub missing_from_at_most : (es : List (ℕ × ℕ)) (clock : List (ℕ × ℕ)) → missing_from clock es ≤ length es
missing_from_at_most [] clock = omega arith
missing_from_at_most (e ∷ es) clock =
    let rest = missing_from_at_most es clock in
    grind (arith, nat_tests)

-- two clocks give a clock exactly where all replicas are at most 16
pub is_clock-joined : (clock : List (ℕ × ℕ)) (other : List (ℕ × ℕ)) → is_clock clock ≡ true → is_clock other ≡ true → is_clock (joined clock other) ≡ nat_le (length clock + missing_from clock other) 16
is_clock-joined clock other h k =
    let c = is_clock_parts clock h in
    let o = is_clock_parts other k in
    let rising = rising-joined other clock 0 0 (omega arith) c.0 o.0 in
    let size = length-joined other clock 0 0 (omega arith) c.0 o.0 in
    let fits = is_clock_made (joined clock other) rising in
    let long = is_clock-too_long (joined clock other) in
    grind (arith, nat_tests)

-- where all of the entries can be joined in, the first can
pub is_clock-joined_one : (clock : List (ℕ × ℕ)) (e : ℕ × ℕ) (es : List (ℕ × ℕ)) (low : ℕ) → is_clock clock ≡ true → is_rising_above low (e ∷ es) ≡ true → is_clock (joined clock (e ∷ es)) ≡ true → is_clock (joined_one clock e) ≡ true
is_clock-joined_one clock e es low h k whole =
    let c = is_clock_parts clock h in
    let p = rising_parts low e es k in
    let rising = rising-joined_one clock 0 e c.0 (omega (arith, p.above)) p.counted p.in_range in
    let size = length-joined es (joined_one clock e) 0 e.0 (omega arith) rising p.rest in
    let all = is_clock_parts (joined clock (e ∷ es)) whole in
    is_clock_made (joined_one clock e) rising (omega (arith, all.1))
