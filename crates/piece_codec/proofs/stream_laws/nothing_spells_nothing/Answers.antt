use Rattle.piece_codec.proofs.StreamLaws.{nothing}
use Rattle.piece_codec.proofs.stream_laws.nothing_spells_nothing.Goals as goal

pub returns : goal.returns
returns c = nothing
