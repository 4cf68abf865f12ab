use Rattle.causal_sync.proofs.Feeding.{heard_nothing}
use Rattle.causal_sync.proofs.hearing.Hearing.new.Goals as goal

pub invariant_of-result : goal.invariant_of-result
invariant_of-result c = rw (c.new.ensures, c.new-2.ensures, c.new-3.ensures.items, c.new-4.ensures, c.new-5.ensures.items) (heard_nothing c.args.own)
