use Rattle.std.proofs.Common.{◌≡◌, suc, ◌-◌, length, ap, sym, ◌∙◌, arith}
use Rattle.run_list.specs.Column.{number_behind}
use Rattle.run_list.proofs.Changes.{last-change, last_at, none_last}
use Rattle.run_list.proofs.Column.{shows}
use Rattle.run_list.proofs.token_column.TokenColumn.last.Goals as goal

pub returns-then-count-eq0 : goal.returns-then-count-eq0
returns-then-count-eq0 c =
    let holds = shows _ _ _ c.args.self.now c.self.invariant c.self.view_is in
    let changes = c.self.inside.changes.items in
    let none : length changes ≡ 0 = omega (arith, c.if-count-eq0.true) in
    sym (none_last changes none) ∙ ap (number_behind 0) holds.changes_so ∙ last-change 0 c.args.self.now

pub returns : goal.returns
returns c =
    let holds = shows _ _ _ c.args.self.now c.self.invariant c.self.view_is in
    let changes = c.self.inside.changes.items in
    let long : length changes ≡ suc (c.len-count.result - 1) = omega (arith, c.if-count-eq0.false) in
    let at = last_at 0 changes (c.len-count.result - 1) c.index.result.now long in
    c.index.ensures ∙ sym at ∙ ap (number_behind 0) holds.changes_so ∙ last-change 0 c.args.self.now
