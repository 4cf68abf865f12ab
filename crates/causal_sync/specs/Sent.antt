-- The clock of what a peer has or was sent.
use Rattle.std.specs.Prelude.{ℕ, ◌+◌, ◌&&◌, nat_le, List, [], ◌∷◌, Option, Some, None, if◌then◌else◌}
use Rattle.fixed_numbers.specs.declared.limits.TheConstants.{MAX_COUNT}
use Rattle.op_ids.specs.Clock.{count_of, joined, is_clock}
use Rattle.op_model.specs.declared.op.Op.{Op}

-- how many operations of its replica there are with this one
abbrev pub number_of_op : Op → ℕ
number_of_op op = count_of op.deps op.id.replica + 1

-- the clock joined with an operation, where it has a place in a clock
abbrev pub counted : List (ℕ × ℕ) → Op → Option (List (ℕ × ℕ))
counted clock op =
    if nat_le (number_of_op op) MAX_COUNT && is_clock (joined clock ((op.id.replica, number_of_op op) ∷ []))
    then Some (joined clock ((op.id.replica, number_of_op op) ∷ [])) else None

-- what follows from a clock, if there is one
abbrev pub and_then : Option (List (ℕ × ℕ)) → (List (ℕ × ℕ) → Option (List (ℕ × ℕ))) → Option (List (ℕ × ℕ))
and_then None f = None
and_then (Some clock) f = f clock

-- the clock joined with each of the operations; none where a seventeenth replica or a count above 2^24 would be in it
abbrev pub sent : List (ℕ × ℕ) → List Op → Option (List (ℕ × ℕ))
sent clock [] = Some clock
sent clock (op ∷ ops) = and_then (counted clock op) (λ next. sent next ops)
