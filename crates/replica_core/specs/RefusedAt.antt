-- Which of several changes an action is refused for.
use Rattle.std.specs.Prelude.{if◌then◌else◌, ℕ, ◌==◌, ◌||◌, Bool, nat_lt, List, length, Option, Some, None}
use Rattle.fixed_numbers.specs.declared.refusals.TheConstants.{LIMIT, RANGE}
use Rattle.op_model.specs.Actions.{action_refusal, Asked}
use Rattle.op_model.specs.declared.op.Op.{Op}
use Rattle.op_model.specs.Held.{ReplicaHeld}

-- range 5 and limit 7 are for one of the changes
abbrev pub is_for_a_change : ℕ → Bool
is_for_a_change n = n == RANGE || n == LIMIT

-- the place of a refusal, if it is for one of the changes
abbrev pub place_in : Option (ℕ × ℕ) → Option ℕ
place_in None = None
place_in (Some found) = if is_for_a_change found.1 then Some found.0 else None

-- which of several changes an action is refused for, counted from 0; one change alone has no place
abbrev pub refused_at : List Op → ℕ → Asked → Option ℕ
refused_at ops replica a = if nat_lt 1 (length a.changes) then place_in (action_refusal ops replica a) else None

-- the place that is told with a refusal of this number
abbrev pub place_told : ReplicaHeld → Asked → ℕ → Option ℕ
place_told h a n = if is_for_a_change n then refused_at h.list h.replica a else None
