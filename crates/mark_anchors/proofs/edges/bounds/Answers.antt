use Rattle.mark_anchors.proofs.EdgeLemmas.{bounds_rise, edges_between}
use Rattle.mark_anchors.proofs.edges.bounds.Goals as goal

pub returns-clause-rise : goal.returns-clause-rise
returns-clause-rise c =
    bounds_rise c.args.edges.now c.args.id c.below-from.result c.not_above-to.result c.below-from.ensures.bound c.below-from.ensures.place
    c.not_above-to.ensures.place

pub returns-clause-between : goal.returns-clause-between
returns-clause-between c =
    edges_between c.args.edges.now c.args.id c.below-from.result c.not_above-to.result c.below-from.ensures.bound c.not_above-to.ensures.bound
    c.below-from.ensures.place c.not_above-to.ensures.place
