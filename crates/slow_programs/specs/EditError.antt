-- Why an edit makes nothing.
use Rattle.std.specs.Prelude.{ℕ}
use Rattle.fixed_numbers.specs.declared.refusals.TheConstants.{LIMIT, MEMORY, RANGE, STALE}
use Rattle.op_ids.specs.declared.clock_error.ClockError.{ClockError}
use Rattle.op_ids.specs.declared.clock_error.ClockError.TheVariants as clock
use Rattle.slow_programs.specs.declared.edit_error.EditError.{EditError}
use Rattle.slow_programs.specs.declared.edit_error.EditError.TheVariants.{Memory, Stale, Range, Limit}

-- the number of each refusal
abbrev pub number_of : EditError → ℕ
number_of Memory = MEMORY
number_of Stale = STALE
number_of Range = RANGE
number_of Limit = LIMIT

-- a clock's refusal, as an edit's
abbrev pub of_clock : ClockError → EditError
of_clock clock.Memory = Memory
of_clock clock.Limit = Limit
