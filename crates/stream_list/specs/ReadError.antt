-- The numbers of refusals.
use Rattle.std.specs.Prelude.{ℕ}
use Rattle.fixed_numbers.specs.declared.refusals.TheConstants.{BAD_OPERATION, BAD_STREAM, MEMORY}
use Rattle.change_codec.specs.declared.stream_error.StreamError.{StreamError}
use Rattle.change_codec.specs.declared.stream_error.StreamError.TheVariants as fault
use Rattle.stream_list.specs.declared.read_error.ReadError.{ReadError}
use Rattle.stream_list.specs.declared.read_error.ReadError.TheVariants.{Memory, Stream, Long}

-- each refusal has one number
abbrev pub number_of : ReadError → ℕ
number_of Memory = MEMORY
number_of Stream = BAD_STREAM
number_of Long = BAD_OPERATION

-- what keeps bytes from being a stream keeps them from being read
abbrev pub of_stream : StreamError → ReadError
of_stream fault.Memory = Memory
of_stream fault.Stream = Stream
