-- The numbers of the codec's refusals.
use Rattle.std.specs.Prelude.{ℕ}
use Rattle.fixed_numbers.specs.declared.refusals.TheConstants.{ANCHOR, KIND, LENGTH, MEMORY, NUMBER, ORDER, SCALAR, UTF8}
use Rattle.change_codec.specs.declared.codec_error.CodecError.{CodecError}
use Rattle.change_codec.specs.declared.codec_error.CodecError.TheVariants.{Memory, Length, Kind, Number}
use Rattle.change_codec.specs.declared.codec_error.CodecError.TheVariants.{Scalar, Utf8, Order, Anchor}

-- each refusal has one number
abbrev pub number_of : CodecError → ℕ
number_of Memory = MEMORY
number_of Length = LENGTH
number_of Kind = KIND
number_of Number = NUMBER
number_of Scalar = SCALAR
number_of Utf8 = UTF8
number_of Order = ORDER
number_of Anchor = ANCHOR
