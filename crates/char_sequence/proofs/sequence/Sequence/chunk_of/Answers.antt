use Rattle.std.proofs.Common.{sym}
use Rattle.char_sequence.proofs.FindLemmas.{in_that_chunk}
use Rattle.char_sequence.proofs.sequence.Sequence.chunk_of.Goals as goal

pub returns : goal.returns
returns c =
    rw (← c.self.view_is) (in_that_chunk c.self.inside.chunks c.args.id c.in_ok-place.field-0.chunk c.in_ok-place.field-0.at c.in_ok-place.ensures)
