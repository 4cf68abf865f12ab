use Rattle.char_sequence.proofs.FindLemmas.{pass_known}
use Rattle.char_sequence.proofs.finding.knows_all.Goals as goal

pub loop-id-preserved : goal.loop-id-preserved
loop-id-preserved c =
    pass_known c.args.chunks.now c.args.ids.now c.loop-id.id-index c.in-Some.field-0.chunk c.in-Some.field-0.at c.id-item.result c.loop-id-test.true
    c.id-item.is c.in-Some.ensures c.loop-id.invariant
