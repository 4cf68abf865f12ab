use Rattle.std.proofs.Common.{◌≡◌, ◌<◌, get_or, refl, arith, ◌∙◌, sym, take, length, add-one}
use Rattle.std.proofs.lemmas.List.{length-take, get_or-take}
use Rattle.run_list.proofs.Appending.{going_begins, going_on, all_put, none_left, next_of_list}
use Rattle.run_list.proofs.token_column.TokenColumn.copy_each.Goals as goal

pub loop-i-init : goal.loop-i-init
loop-i-init c = (going_begins _ _ _ refl, c.changes_before-changes.ensures)

pub loop-i-preserved : goal.loop-i-preserved
loop-i-preserved c =
    let front = take c.args.to c.args.other.now in
    let long = length-take c.args.to c.args.other.now in
    let lt : c.loop-i.i < length front = omega (arith, long, c.requires.within) in
    let is : c.number_with.result ≡ get_or front c.loop-i.i c.number_with.result = c.number_with.ensures ∙ sym (get_or-take c.args.to c.args.other.now c.loop-i.i c.number_with.result (omega arith)) in (
      going_on _ _ _ _ _ _ _ c.loop-i.invariant.0 (next_of_list front c.loop-i.i c.number_with.result is lt) c.in_ok-push.ensures.ok,
      rw add-one c.changes_with-changes.ensures,
    )

pub returns-clause-ok : goal.returns-clause-ok
returns-clause-ok c =
    all_put _ _ _ _ c.loop-i.invariant.0 (none_left (take c.args.to c.args.other.now) c.loop-i.i (omega (arith, length-take c.args.to c.args.other.now)))
