use Rattle.std.proofs.Common.{◌≡◌, ◌∙◌, ◌<◌, [], None, refl, ap, sym, arith, length, drop}
use Rattle.std.proofs.lemmas.Bool.Decides.{nat_tests}
use Rattle.op_model.specs.Actions.{asked}
use Rattle.op_model.specs.Held.{ReplicaHeld}
use Rattle.replica_core.proofs.DocLemmas.{docs_up}
use Rattle.replica_core.proofs.SingleLemmas.{none_from, place_from, place_single}
use Rattle.replica_core.proofs.replica.Replica.refused_at.Goals as goal

-- one change has no place
pub returns-then-is_empty : goal.returns-then-is_empty
returns-then-is_empty c =
    let empty : length c.others.result.now ≡ 0 = (let test = c.is_empty.ensures in let is = c.if-is_empty.true in grind (arith, nat_tests)) in
    let none : drop 1 c.args.edit.now.changes ≡ [] = sym c.others.ensures.others ∙ none_from c.others.result.now empty in
    sym (place_single c.args.self.now.list c.args.self.now.replica c.args.edit.now c.args.edit.now.changes refl none)

pub place-place-requires : goal.place-place-requires
place-place-requires c = rw c.deref.ensures.value (docs_up c.self.inside.log.docs.items c.self.inside.log.list c.self.invariant.docs)

-- several that nothing refuses have none
pub returns-in-Ok : goal.returns-in-Ok
returns-in-Ok c =
    let some : 0 < length c.others.result.now = (let test = c.is_empty.ensures in let is = c.if-is_empty.false in grind (arith, nat_tests)) in
    let whole : c.args.edit.now ≡ asked c.first.result.now c.others.result.now = c.first.ensures ∙ ap (asked c.first.result.now) (sym c.others.ensures.others) in
    let list : c.self.inside.log.list ≡ c.args.self.now.list = ap (λ (h : ReplicaHeld). h.list) c.self.view_is in
    let name : c.self.inside.id ≡ c.args.self.now.replica = ap (λ (h : ReplicaHeld). h.replica) c.self.view_is in
    sym (place_from c.as_slice-ops.result c.args.self.now.list c.self.inside.id c.args.self.now.replica c.args.edit.now c.first.result.now
    c.others.result.now None (c.as_slice-ops.ensures ∙ list) name whole some c.in-Ok.ensures.due)

-- and else the first that is refused in turn
pub returns : goal.returns
returns c =
    let some : 0 < length c.others.result.now = (let test = c.is_empty.ensures in let is = c.if-is_empty.false in grind (arith, nat_tests)) in
    let whole : c.args.edit.now ≡ asked c.first.result.now c.others.result.now = c.first.ensures ∙ ap (asked c.first.result.now) (sym c.others.ensures.others) in
    let list : c.self.inside.log.list ≡ c.args.self.now.list = ap (λ (h : ReplicaHeld). h.list) c.self.view_is in
    let name : c.self.inside.id ≡ c.args.self.now.replica = ap (λ (h : ReplicaHeld). h.replica) c.self.view_is in
    c.place.ensures
    ∙ sym (place_from c.as_slice-ops.result c.args.self.now.list c.self.inside.id c.args.self.now.replica c.args.edit.now c.first.result.now
    c.others.result.now _ (c.as_slice-ops.ensures ∙ list) name whole some c.in-Err.ensures.refused)
