use Rattle.char_sequence.specs.Chunks.{cells_of}
use Rattle.char_sequence.proofs.ApplyLemmas.{left_less}
use Rattle.char_sequence.proofs.applying.remove_all.Goals as goal

pub loop-id-preserved : goal.loop-id-preserved
loop-id-preserved c = λ known once.
    left_less c.args.ids.now c.loop-id.id-index c.id-item.result (cells_of c.args.chunks.now) (cells_of c.loop-id.chunks)
    (cells_of c.remove_one.new.chunks) c.loop-id-test.true c.id-item.is c.remove_one.ensures (c.loop-id.invariant known once)
