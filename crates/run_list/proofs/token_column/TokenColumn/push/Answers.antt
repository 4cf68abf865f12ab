use Rattle.std.proofs.Common.{sym, ◌∙◌, arith, rules}
use Rattle.run_list.proofs.Changes.{is_same, is_other}
use Rattle.run_list.proofs.Column.{shows, same_more, other_more, is_column, column_is}
use Rattle.run_list.proofs.token_column.TokenColumn.push.Goals as goal

pub invariant_of-self : goal.invariant_of-self
invariant_of-self c =
    let holds = shows _ _ _ c.args.self.now c.self.invariant c.self.view_is in
    is_column _ _ _ _ (same_more _ _ _ _ c.args.self.now c.args.number holds (is_same c.args.number _ (c.if-number-last.true ∙ c.last.ensures)) (search rules) (omega arith))

pub returns-then-number-last-clause-ok : goal.returns-then-number-last-clause-ok
returns-then-number-last-clause-ok c =
    let holds = shows _ _ _ c.args.self.now c.self.invariant c.self.view_is in
    column_is _ _ _ _ (same_more _ _ _ _ c.args.self.now c.args.number holds (is_same c.args.number _ (c.if-number-last.true ∙ c.last.ensures)) (search rules) (omega arith))

pub invariant_of-self-2 : goal.invariant_of-self-2
invariant_of-self-2 c =
    let holds = shows _ _ _ c.args.self.now c.self.invariant c.self.view_is in
    is_column _ _ _ _ (other_more _ _ _ _ c.args.self.now c.args.number _ _ holds (is_other c.args.number _ (λ is. c.if-number-last.false (is ∙ sym c.last.ensures)))
    (search rules) (search rules) (search rules) (omega arith))

pub returns-clause-ok : goal.returns-clause-ok
returns-clause-ok c =
    let holds = shows _ _ _ c.args.self.now c.self.invariant c.self.view_is in
    column_is _ _ _ _ (other_more _ _ _ _ c.args.self.now c.args.number _ _ holds (is_other c.args.number _ (λ is. c.if-number-last.false (is ∙ sym c.last.ensures)))
    (search rules) (search rules) (search rules) (omega arith))
