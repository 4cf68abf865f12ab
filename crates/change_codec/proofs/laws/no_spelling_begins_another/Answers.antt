use Rattle.change_codec.proofs.RecordLaws.{begins_none}
use Rattle.change_codec.proofs.laws.no_spelling_begins_another.Goals as goal

pub returns : goal.returns
returns c = begins_none
