use Rattle.piece_codec.proofs.CutStreams.{cut_spells}
use Rattle.piece_codec.proofs.stream_laws.what_is_cut_spells_the_operations.Goals as goal

pub returns : goal.returns
returns c = cut_spells
