use Rattle.piece_codec.proofs.StreamLaws.{goes_on}
use Rattle.piece_codec.proofs.stream_laws.a_stream_goes_on_as_a_stream.Goals as goal

pub returns : goal.returns
returns c = λ f a all x y s t. goes_on f f a all x y s t
