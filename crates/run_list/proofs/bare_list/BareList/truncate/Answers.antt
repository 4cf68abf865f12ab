use Rattle.std.proofs.Common.{◌≡◌, ap, ◌∙◌}
use Rattle.run_list.specs.Reading.{below}
use Rattle.run_list.proofs.Found.{rising}
use Rattle.run_list.proofs.Holding.{holds_front}
use Rattle.run_list.proofs.Unrolling.{shown, are_runs, held_is}
use Rattle.run_list.proofs.bare_list.BareList.truncate.Goals as goal

pub count_below-count-requires : goal.count_below-count-requires
count_below-count-requires c =
    let holds = shown _ _ _ c.args.self.now c.self.invariant c.self.view_is in
    rising _ _ _ _ _ holds c.deref.ensures.value

pub invariant_of-self : goal.invariant_of-self
invariant_of-self c =
    let holds = shown _ _ _ c.args.self.now c.self.invariant c.self.view_is in
    let count : c.count_below-count.result ≡ below c.args.n c.self.inside.starts.items =
    c.count_below-count.ensures ∙ ap (below c.args.n) c.deref.ensures.value in
    are_runs _ _ _ _ (holds_front _ _ _ _ _ _ _ _ _ holds count c.truncate.ensures.items c.truncate-3.ensures c.truncate-2.ensures.items)

pub returns : goal.returns
returns c =
    let holds = shown _ _ _ c.args.self.now c.self.invariant c.self.view_is in
    let count : c.count_below-count.result ≡ below c.args.n c.self.inside.starts.items =
    c.count_below-count.ensures ∙ ap (below c.args.n) c.deref.ensures.value in
    held_is _ _ _ _ (holds_front _ _ _ _ _ _ _ _ _ holds count c.truncate.ensures.items c.truncate-3.ensures c.truncate-2.ensures.items)
