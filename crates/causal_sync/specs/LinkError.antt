-- The numbers of refusals.
use Rattle.std.specs.Prelude.{ℕ}
use Rattle.fixed_numbers.specs.declared.refusals.TheConstants.{BAD_FRAME, BAD_HELLO, CLOSED, LIMIT, MEMORY}
use Rattle.change_codec.specs.CodecError.{number_of as codec_number}
use Rattle.causal_sync.specs.declared.link_error.LinkError.{LinkError}
use Rattle.causal_sync.specs.declared.link_error.LinkError.TheVariants.{Memory, Limit, BadFrame, BadHello, Closed, Record}

-- the number of a refusal
abbrev pub number_of : LinkError → ℕ
number_of Memory = MEMORY
number_of Limit = LIMIT
number_of BadFrame = BAD_FRAME
number_of BadHello = BAD_HELLO
number_of Closed = CLOSED
number_of (Record fault) = codec_number fault
