use Rattle.char_sequence.specs.Chunks.{cells_of}
use Rattle.mark_anchors.proofs.CountLemmas.{past_all}
use Rattle.mark_anchors.proofs.force.index.Goals as goal

pub returns-in-None : goal.returns-in-None
returns-in-None c = λ ops doc holds.
    past_all (cells_of c.args.sequence.now) ops doc c.args.id c.args.count holds c.requires (c.in-None.ensures ops doc holds)
