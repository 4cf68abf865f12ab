use Rattle.char_sequence.proofs.FindLemmas.{known_there}
use Rattle.char_sequence.proofs.finding.knows.Goals as goal

pub returns-in-Some-place : goal.returns-in-Some-place
returns-in-Some-place c =
    known_there c.args.chunks.now c.args.origin.now c.in-Some.id c.in-Some-place.field-0.chunk c.in-Some-place.field-0.at c.in-Some-place.ensures
    c.in-Some.is
