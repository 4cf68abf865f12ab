use Rattle.std.proofs.Common.{◌≡◌, suc, ◌-◌, take, ◌∙◌, arith}
use Rattle.run_list.specs.Column.{changes_in}
use Rattle.run_list.proofs.Column.{shows, is_zero, made_by}
use Rattle.run_list.proofs.token_column.TokenColumn.number_with.Goals as goal

pub returns-then-changes-eq0 : goal.returns-then-changes-eq0
returns-then-changes-eq0 c = is_zero c.args.self.now c.args.i 0 c.requires.within (omega (arith, c.requires.changes, c.if-changes-eq0.true))

pub index-requires : goal.index-requires
index-requires c =
    let holds = shows _ _ _ c.args.self.now c.self.invariant c.self.view_is in
    let some : changes_in (take (suc c.args.i) c.args.self.now) ≡ suc (c.args.changes - 1) = omega (arith, c.requires.changes, c.if-changes-eq0.false) in
    omega (arith, (made_by _ _ _ _ c.args.i (c.args.changes - 1) holds c.requires.within some).within)

pub returns : goal.returns
returns c =
    let holds = shows _ _ _ c.args.self.now c.self.invariant c.self.view_is in
    let some : changes_in (take (suc c.args.i) c.args.self.now) ≡ suc (c.args.changes - 1) = omega (arith, c.requires.changes, c.if-changes-eq0.false) in
    c.index.ensures ∙ (made_by _ _ _ _ c.args.i (c.args.changes - 1) holds c.requires.within some).is_it c.index.result.now c.index.result.now
