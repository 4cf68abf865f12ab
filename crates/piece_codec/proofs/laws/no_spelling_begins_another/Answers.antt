use Rattle.piece_codec.proofs.PieceLaws.{none_begins_another}
use Rattle.piece_codec.proofs.laws.no_spelling_begins_another.Goals as goal

pub returns : goal.returns
returns c = none_begins_another
