use Rattle.std.proofs.Common.{◌≡◌, suc, ◌-◌, ◌<◌, length, get_or, refl, arith}
use Rattle.std.proofs.lemmas.Bool.Decides.{nat_tests}
use Rattle.run_list.specs.Reading.{below}
use Rattle.run_list.proofs.Reading.{below_within}
use Rattle.run_list.proofs.Changes.{all_below}
use Rattle.run_list.proofs.Column.{shows, no_more, rising}
use Rattle.run_list.proofs.token_column.TokenColumn.is_behind_changes.Goals as goal

pub returns-then-count-eq0 : goal.returns-then-count-eq0
returns-then-count-eq0 c = λ none.
    let holds = shows _ _ _ c.args.self.now c.self.invariant c.self.view_is in
    let starts = c.self.inside.starts.items in
    let all : below (suc c.args.i) starts ≡ length starts = omega (arith, c.if-count-eq0.true, below_within (suc c.args.i) starts) in
    no_more starts _ _ _ c.args.i holds all

pub returns-else-count-eq0 : goal.returns-else-count-eq0
returns-else-count-eq0 c = λ behind.
    let holds = shows _ _ _ c.args.self.now c.self.invariant c.self.view_is in
    let starts = c.self.inside.starts.items in
    let long : length starts ≡ suc (c.len-count.result - 1) = omega (arith, c.if-count-eq0.false) in
    let lower : c.index.result.now < suc c.args.i = grind (arith, nat_tests) in
    let at : get_or starts (c.len-count.result - 1) c.index.result.now < suc c.args.i = omega (arith, c.index.ensures, lower) in
    no_more starts _ _ _ c.args.i holds (all_below (suc c.args.i) starts (c.len-count.result - 1) c.index.result.now (rising _ _ _ _ starts holds refl) long at)
