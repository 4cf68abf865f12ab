use Rattle.char_sequence.specs.Chunks.{cells_of}
use Rattle.char_sequence.proofs.LandingLemmas.{removed_at}
use Rattle.char_sequence.proofs.applying.remove_one.Goals as goal

pub returns : goal.returns
returns c = λ known once.
    removed_at c.args.chunks.now c.args.id.now c.in-Some.at.chunk c.in-Some.at.at (cells_of c.remove.new.self) c.in-Some.ensures once c.remove.ensures
