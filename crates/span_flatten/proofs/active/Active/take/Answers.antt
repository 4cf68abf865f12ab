use Rattle.std.proofs.Common.{arith}
use Rattle.std.proofs.lemmas.List.{take_all}
use Rattle.span_flatten.proofs.ActiveLemmas.{active_taken}
use Rattle.span_flatten.proofs.active.Active.take.Goals as goal

pub loop-edge-preserved : goal.loop-edge-preserved
loop-edge-preserved c = record {
  active = λ n begun ended are.
      active_taken c.loop-edge.self c.take_one.new.self n begun ended c.args.is_after c.args.edges.now c.loop-edge.edge-index c.edge-item.result
      (omega arith) c.edge-item.is (λ m b e h. c.in_ok-take_one.ensures.active m b e h) (c.loop-edge.invariant.active n begun ended are);
  deciding = λ h. c.in_ok-take_one.ensures.deciding (c.loop-edge.invariant.deciding h);
  noted = λ ids h. c.in_ok-take_one.ensures.noted ids (c.loop-edge.invariant.noted ids h);
  none = λ h. absurd (omega arith);
}

pub returns-clause-active : goal.returns-clause-active
returns-clause-active c = λ n begun ended are.
    rw (take_all c.loop-edge.edge-index c.args.edges.now (omega arith)) at (c.loop-edge.invariant.active n begun ended are)
