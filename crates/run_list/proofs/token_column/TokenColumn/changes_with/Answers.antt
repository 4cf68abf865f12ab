use Rattle.std.proofs.Common.{sym, ◌∙◌, add-one, arith}
use Rattle.run_list.proofs.Column.{shows, changes_here, no_change_here}
use Rattle.run_list.proofs.token_column.TokenColumn.changes_with.Goals as goal

pub returns-then-changes-len : goal.returns-then-changes-len
returns-then-changes-len c =
    let holds = shows _ _ _ c.args.self.now c.self.invariant c.self.view_is in
    no_change_here _ _ _ _ c.args.i c.args.changes 0 holds c.requires (λ lt is. absurd (omega arith))

pub returns-then-index-i : goal.returns-then-index-i
returns-then-index-i c =
    let holds = shows _ _ _ c.args.self.now c.self.invariant c.self.view_is in
    rw add-one (changes_here _ _ _ _ c.args.i c.args.changes c.index.result.now holds c.requires (omega arith) (sym c.index.ensures ∙ c.if-index-i.true))

pub returns : goal.returns
returns c =
    let holds = shows _ _ _ c.args.self.now c.self.invariant c.self.view_is in
    no_change_here _ _ _ _ c.args.i c.args.changes c.index.result.now holds c.requires (λ lt is. c.if-index-i.false (c.index.ensures ∙ is))
