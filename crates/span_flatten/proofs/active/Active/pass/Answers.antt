use Rattle.std.proofs.lemmas.Result.{on_ok_weaker}
use Rattle.span_flatten.proofs.ActiveLemmas.{begin_same, end_same}
use Rattle.span_flatten.proofs.active.Active.pass.Goals as goal

pub returns-then-edge-clause-active : goal.returns-then-edge-clause-active
returns-then-edge-clause-active c =
    on_ok_weaker c.end.result (λ passed. λ n begun ended are.
    end_same _ n c.args.edge.now.marking c.args.edge.now.is_end begun ended c.if-edge.true (passed n begun ended are)) c.end.ensures.active

pub returns-clause-active : goal.returns-clause-active
returns-clause-active c =
    on_ok_weaker c.begin.result (λ passed. λ n begun ended are.
    begin_same _ n c.args.edge.now.marking c.args.edge.now.is_end begun ended c.if-edge.false (passed n begun ended are)) c.begin.ensures.active
