-- Why a sequence stays as it was.
use Rattle.std.specs.Prelude.{ℕ}
use Rattle.fixed_numbers.specs.declared.refusals.TheConstants.{MEMORY, UNKNOWN_ID}
use Rattle.char_sequence.specs.declared.error.SequenceError.{SequenceError}
use Rattle.char_sequence.specs.declared.error.SequenceError.TheVariants.{Memory, UnknownId}

-- the number of each refusal
abbrev pub number_of : SequenceError → ℕ
number_of Memory = MEMORY
number_of UnknownId = UNKNOWN_ID
