-- The numbers of a clock's refusals.
use Rattle.std.specs.Prelude.{ℕ}
use Rattle.fixed_numbers.specs.declared.refusals.TheConstants.{LIMIT, MEMORY}
use Rattle.op_ids.specs.declared.clock_error.ClockError.{ClockError}
use Rattle.op_ids.specs.declared.clock_error.ClockError.TheVariants.{Memory, Limit}

-- each refusal has one number
abbrev pub number_of : ClockError → ℕ
number_of Memory = MEMORY
number_of Limit = LIMIT
