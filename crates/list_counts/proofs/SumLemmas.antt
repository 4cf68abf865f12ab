-- Sums over clocks stay small.
use Rattle.std.proofs.Common.{◌≡◌, ℕ, zero, suc, ◌*◌, ◌≤◌, true, List, [], ◌∷◌, length, arith}
use Rattle.op_ids.specs.Clock.{total_of, is_clock, is_rising_above}
use Rattle.op_ids.proofs.ClockLemmas.{rising_parts, is_clock_parts}
use Rattle.list_counts.specs.Counts.{lacking}

-- so many entries count at most 2^24 each
total_bound : (es : List (ℕ × ℕ)) (low n : ℕ) → is_rising_above low es ≡ true → length es ≤ n → total_of es ≤ n * 16777216
total_bound [] low n rising fits = omega arith
total_bound (e ∷ es) low zero rising fits = let never : ⊥ = omega arith in absurd never
total_bound (e ∷ es) low (suc n) rising fits =
    let parts = rising_parts low e es rising in
    let rest = total_bound es e.0 n parts.rest (omega arith) in omega arith

-- a clock counts at most 2^28 operations
pub total_limit : (es : List (ℕ × ℕ)) → is_clock es ≡ true → total_of es ≤ 268435456
total_limit es clock = let (rising, few) = is_clock_parts es clock in let all = total_bound es 0 16 rising few in omega arith

-- no more are lacking than there are
pub lacking_at_most : (its here : List (ℕ × ℕ)) → lacking its here ≤ total_of here
lacking_at_most its [] = omega arith
lacking_at_most its (e ∷ here) = let rest = lacking_at_most its here in omega arith
