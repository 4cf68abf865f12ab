use Rattle.std.proofs.Common.{◌+◌, ◌∷◌, drop, ap, subst, refl}
use Rattle.std.proofs.lemmas.List.{drop_more}
use Rattle.op_model.specs.Actions.{edit_of, Asked}
use Rattle.hub_parts.specs.Adding.{IsPutting}
use Rattle.hub_parts.proofs.PuttingLemmas.{next_stands, putting_goes_on, putting_starts}
use Rattle.hub_parts.proofs.waiting.put_changes.Goals as goal

pub put_first-requires : goal.put_first-requires
put_first-requires c =
    let a = c.args.action.now in
    let was = c.args.waiting.now.items in
    let starts : IsPutting was was c.args.ops.now c.args.ops.now a.doc a.token a.changes (c.first.result.now.change ∷ drop 1 a.changes) =
    subst (λ cs. IsPutting was was c.args.ops.now c.args.ops.now a.doc a.token a.changes cs) (ap (λ (x : Asked). x.changes) c.first.ensures)
    (putting_starts was c.args.ops.now c.requires.0 c.requires.1 a.doc a.token a.changes c.requires.2 c.requires.3 c.requires.4) in
    let next = next_stands was was c.args.ops.now c.args.ops.now a.doc a.token a.changes c.first.result.now.change (drop 1 a.changes) starts in
    (next.list, next.more, next.replica, edit_of next.doc next.token c.first.result.now.change, next.whole, refl, next.size, next.small)

pub loop-change-init : goal.loop-change-init
loop-change-init c =
    let a = c.args.action.now in
    let was = c.args.waiting.now.items in
    let starts : IsPutting was was c.args.ops.now c.args.ops.now a.doc a.token a.changes (c.first.result.now.change ∷ drop 1 a.changes) =
    subst (λ cs. IsPutting was was c.args.ops.now c.args.ops.now a.doc a.token a.changes cs) (ap (λ (x : Asked). x.changes) c.first.ensures)
    (putting_starts was c.args.ops.now c.requires.0 c.requires.1 a.doc a.token a.changes c.requires.2 c.requires.3 c.requires.4) in
    rw (c.in_ok-rest.ensures.rest, c.others-others.ensures.others)
    (putting_goes_on was was c.put_first.new.waiting.items c.args.ops.now c.args.ops.now a.doc a.token a.changes c.first.result.now.change (drop 1 a.changes)
    starts c.in_ok-rest.ensures.put)

pub put_first-requires-in-loop-change : goal.put_first-requires-in-loop-change
put_first-requires-in-loop-change c =
    let a = c.args.action.now in
    let was = c.args.waiting.now.items in
    let i = c.loop-change.change-index in
    let rest = drop (i + 1) c.others-others.result.now in
    let more = drop_more c.others-others.result.now i c.change-item.result c.loop-change-test.true in
    let putting : IsPutting was c.loop-change.waiting.items c.args.ops.now c.loop-change.rest.now a.doc a.token a.changes (c.change-item.result ∷ rest) =
    rw (more, ← c.change-item.is) at c.loop-change.invariant in
    let next = next_stands was c.loop-change.waiting.items c.args.ops.now c.loop-change.rest.now a.doc a.token a.changes c.change-item.result rest putting in
    (next.list, next.more, next.replica, edit_of next.doc next.token c.change-item.result, next.whole, refl, next.size, next.small)

pub loop-change-preserved : goal.loop-change-preserved
loop-change-preserved c =
    let a = c.args.action.now in
    let was = c.args.waiting.now.items in
    let i = c.loop-change.change-index in
    let rest = drop (i + 1) c.others-others.result.now in
    let more = drop_more c.others-others.result.now i c.change-item.result c.loop-change-test.true in
    let putting : IsPutting was c.loop-change.waiting.items c.args.ops.now c.loop-change.rest.now a.doc a.token a.changes (c.change-item.result ∷ rest) =
    rw (more, ← c.change-item.is) at c.loop-change.invariant in
    rw c.in_ok-rest-2.ensures.rest
    (putting_goes_on was c.loop-change.waiting.items c.put_first-in-loop-change.new.waiting.items c.args.ops.now c.loop-change.rest.now a.doc a.token a.changes c.change-item.result rest
    putting c.in_ok-rest-2.ensures.put)
