-- Why no operations were made.
use Rattle.std.specs.Prelude.{ℕ}
use Rattle.fixed_numbers.specs.declared.refusals.TheConstants.{LIMIT, MEMORY, RANGE}
use Rattle.op_ids.specs.declared.clock_error.ClockError.{ClockError}
use Rattle.op_ids.specs.declared.clock_error.ClockError.TheVariants as clock
use Rattle.doc_core.specs.declared.make_error.MakeError.{MakeError}
use Rattle.doc_core.specs.declared.make_error.MakeError.TheVariants.{Memory, Range, Limit}

-- the number of each refusal
abbrev pub number_of : MakeError → ℕ
number_of Memory = MEMORY
number_of Range = RANGE
number_of Limit = LIMIT

-- a clock's refusal, as that of an edit
abbrev pub of_clock : ClockError → MakeError
of_clock clock.Memory = Memory
of_clock clock.Limit = Limit
