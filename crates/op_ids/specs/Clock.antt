-- A vector clock says how many operations it counts of each replica. It is the list of its entries, a replica and a
-- count each, in strictly rising order of replica.
use Rattle.std.specs.Prelude.{◌⊎◌, ◌<◌, ℕ, zero, suc, ◌+◌, ◌==◌, Bool, true, ◌&&◌, nat_lt, nat_le, max, if◌then◌else◌, List, [], ◌∷◌, length}
use Rattle.std.specs.Cmp.Lexicographic.{pointwise}
use Rattle.fixed_numbers.specs.declared.limits.TheConstants.{MAX_COUNT, MAX_OPERATIONS, MAX_REPLICAS}

-- how many operations of a replica the clock counts
abbrev pub count_of : List (ℕ × ℕ) → ℕ → ℕ
count_of [] replica = 0
count_of (e ∷ es) replica = if e.0 == replica then e.1 else count_of es replica

-- the clock with one more operation of a replica
abbrev pub advanced : List (ℕ × ℕ) → ℕ → List (ℕ × ℕ)
advanced [] replica = (replica, 1) ∷ []
advanced (e ∷ es) replica =
    if nat_lt replica e.0 then (replica, 1) ∷ e ∷ es
    else if e.0 == replica then (replica, e.1 + 1) ∷ es
    else e ∷ advanced es replica

-- the clock with n more operations of a replica
abbrev pub advanced_by : List (ℕ × ℕ) → ℕ → ℕ → List (ℕ × ℕ)
advanced_by clock replica zero = clock
advanced_by clock replica (suc n) = advanced_by (advanced clock replica) replica n

-- counts nothing beyond the clock
abbrev pub is_within : List (ℕ × ℕ) → List (ℕ × ℕ) → Bool
is_within [] clock = true
is_within (e ∷ es) clock = nat_le e.1 (count_of clock e.0) && is_within es clock

-- an operation of this replica with these deps is the next one of its replica, and all that it depends on is counted
abbrev pub is_ready : List (ℕ × ℕ) → ℕ → List (ℕ × ℕ) → Bool
is_ready clock replica deps = count_of clock replica == count_of deps replica && is_within deps clock

-- the replicas rise from above a number, and each count is from 1 to 2^24
abbrev pub is_rising_above : ℕ → List (ℕ × ℕ) → Bool
is_rising_above low [] = true
is_rising_above low (e ∷ es) = nat_lt low e.0 && nat_le 1 e.1 && nat_le e.1 MAX_COUNT && is_rising_above e.0 es

-- the entries of a clock: at most 16, each of a replica that isn't nil, rising
abbrev pub is_clock : List (ℕ × ℕ) → Bool
is_clock es = is_rising_above 0 es && nat_le (length es) MAX_REPLICAS

-- how many entries are of replicas below this one
abbrev pub place_of : List (ℕ × ℕ) → ℕ → ℕ
place_of [] replica = 0
place_of (e ∷ es) replica = if nat_lt e.0 replica then place_of es replica + 1 else 0

-- the clock with this count of a replica
abbrev pub with_count : List (ℕ × ℕ) → ℕ → ℕ → List (ℕ × ℕ)
with_count [] replica count = (replica, count) ∷ []
with_count (e ∷ es) replica count =
    if nat_lt replica e.0 then (replica, count) ∷ e ∷ es
    else if e.0 == replica then (replica, count) ∷ es
    else e ∷ with_count es replica count

-- the clock with the greater of both counts for each replica of the other
abbrev pub joined : List (ℕ × ℕ) → List (ℕ × ℕ) → List (ℕ × ℕ)
joined clock [] = clock
joined clock (e ∷ es) = joined (with_count clock e.0 (max (count_of clock e.0) e.1)) es

-- how many replicas the other clock counts and this one doesn't
abbrev pub missing_from : List (ℕ × ℕ) → List (ℕ × ℕ) → ℕ
missing_from clock [] = 0
missing_from clock (e ∷ es) = (if count_of clock e.0 == 0 then 1 else 0) + missing_from clock es

-- both entries count as many operations of one replica
abbrev pub is_same_entry : ℕ × ℕ → ℕ × ℕ → Bool
is_same_entry a b = a.0 == b.0 && a.1 == b.1

-- both clocks have the same entries
abbrev pub is_same_clock : List (ℕ × ℕ) → List (ℕ × ℕ) → Bool
is_same_clock = pointwise is_same_entry

-- how many operations the clock counts in all
abbrev pub total_of : List (ℕ × ℕ) → ℕ
total_of [] = 0
total_of (e ∷ es) = e.1 + total_of es

-- Counts a seventeenth replica, or more than 2^24 operations in all: more than any store holds. A clock with one count above
-- 2^24 does, and whatever is counted besides, it stays so.
pub record IsOverfull (clock : List (ℕ × ℕ)) : Type 0 where
  pub over : (MAX_REPLICAS < length clock) ⊎ (MAX_OPERATIONS < total_of clock)
