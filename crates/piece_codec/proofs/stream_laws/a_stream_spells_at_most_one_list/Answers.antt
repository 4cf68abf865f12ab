use Rattle.piece_codec.proofs.StreamLaws.{one_list}
use Rattle.piece_codec.proofs.stream_laws.a_stream_spells_at_most_one_list.Goals as goal

pub returns : goal.returns
returns c = one_list
