use Rattle.std.proofs.lemmas.Result.{on_ok_weaker}
use Rattle.span_flatten.proofs.ActiveLemmas.{other_side, same_side, side_other, side_same}
use Rattle.span_flatten.proofs.active.Active.take_one.Goals as goal

pub returns-then-edge-is_after-clause-active : goal.returns-then-edge-is_after-clause-active
returns-then-edge-is_after-clause-active c = λ n begun ended are.
    side_other c.args.self.now n c.args.is_after c.args.edge.now begun ended
    (other_side c.args.edge.now.is_after c.args.is_after c.if-edge-is_after.true) are

pub returns-clause-active : goal.returns-clause-active
returns-clause-active c =
    on_ok_weaker c.pass.result (λ passed. λ n begun ended are.
    side_same _ n c.args.is_after c.args.edge.now begun ended (same_side c.args.edge.now.is_after c.args.is_after c.if-edge-is_after.false)
    (passed n begun ended are)) c.pass.ensures.active
