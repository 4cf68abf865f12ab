use Rattle.char_sequence.proofs.HiddenLemmas.{hides_more}
use Rattle.char_sequence.proofs.hidden.past_hidden.Goals as goal

pub loop-next-preserved : goal.loop-next-preserved
loop-next-preserved c = hides_more c.args.chunks.now c.args.from.now c.loop-next.at c.in-Some.next c.loop-next.invariant c.in-Some.ensures.hidden
