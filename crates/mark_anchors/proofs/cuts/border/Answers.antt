use Rattle.mark_anchors.proofs.CutLemmas.{apart_before, apart_up_to}
use Rattle.mark_anchors.proofs.cuts.border.Goals as goal

pub returns-then-before-gt0-clause-apart : goal.returns-then-before-gt0-clause-apart
returns-then-before-gt0-clause-apart c =
    apart_before c.args.edges.now _ c.below-before.result c.below-before.ensures.bound c.below-before.ensures.place

pub returns-clause-apart : goal.returns-clause-apart
returns-clause-apart c = apart_up_to c.args.edges.now _ c.not_above.result c.not_above.ensures.bound c.not_above.ensures.place
