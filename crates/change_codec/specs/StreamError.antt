-- The numbers of what keeps bytes from being a list of operations.
use Rattle.std.specs.Prelude.{ℕ}
use Rattle.fixed_numbers.specs.declared.refusals.TheConstants.{BAD_STREAM, MEMORY}
use Rattle.change_codec.specs.declared.stream_error.StreamError.{StreamError}
use Rattle.change_codec.specs.declared.stream_error.StreamError.TheVariants.{Memory, Stream}

-- each refusal has one number
abbrev pub number_of : StreamError → ℕ
number_of Memory = MEMORY
number_of Stream = BAD_STREAM
