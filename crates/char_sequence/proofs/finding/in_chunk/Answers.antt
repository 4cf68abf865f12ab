use Rattle.char_sequence.proofs.FindLemmas.{is_place_of}
use Rattle.char_sequence.proofs.finding.in_chunk.Goals as goal

pub returns-in-Some : goal.returns-in-Some
returns-in-Some c = is_place_of c.args.chunks.now c.args.id.now c.args.i c.in-Some.at c.in-Some.ensures
