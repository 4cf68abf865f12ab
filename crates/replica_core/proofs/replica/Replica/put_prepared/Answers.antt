use Rattle.std.proofs.Common.{◌≡◌, ◌∙◌, length, ap, Err, rules}
use Rattle.op_model.specs.Actions.{made_by_action, Asked}
use Rattle.replica_core.specs.Edited.{ops_of}
use Rattle.replica_core.proofs.FollowLemmas.{stream_fits}
use Rattle.replica_core.proofs.ActionLemmas.{action_own, action_tokens, fit, fits, within}
use Rattle.replica_core.proofs.EditedLemmas.{AreFields-edit}
use Rattle.replica_core.proofs.replica.Replica.put_prepared.Goals as goal

pub append_edited-requires-clause-room : goal.append_edited-requires-clause-room
append_edited-requires-clause-room c =
    let is = rw (← c.self.view_is) at c.requires.prepared in
    let can = (rw (← c.self.view_is) at c.requires.decided).can in
    let closed = c.self.invariant.sound.closed in
    record {
      few = rw is.operations (fits c.self.inside.log.list c.self.inside.id c.args.edit.now closed can.due);
      stream = c.self.invariant.index.stream;
      small = rw is.operations (stream_fits c.self.inside.log.list (made_by_action c.self.inside.log.list c.self.inside.id c.args.edit.now)
          (within c.self.inside.log.list c.self.inside.id c.args.edit.now closed can.due));
    }

pub append_edited-requires-clause-own : goal.append_edited-requires-clause-own
append_edited-requires-clause-own c =
    let is = rw (← c.self.view_is) at c.requires.prepared in
    rw is.operations (action_own c.self.inside.log.list c.self.inside.id c.args.edit.now)

pub unreachable-requires : goal.unreachable-requires
unreachable-requires c =
    let is = rw (← c.self.view_is) at c.requires.prepared in
    let can = (rw (← c.self.view_is) at c.requires.decided).can in
    let same : c.args.edit.now.doc ≡ c.first.result.now.doc = ap (λ (a : Asked). a.doc) c.first.ensures in
    let come = fit c.self.inside.log.list c.self.inside.id c.args.edit.now c.self.invariant.sound.closed can.due in
    c.append_edited.ensures.known (c.in-Err-UnknownId.is ∙ ap Err c.in-Err-UnknownId.field-0-is) c.self.invariant.docs
    (rw (← same) (rw is.operations come))

pub invariant_of-self-2 : goal.invariant_of-self-2
invariant_of-self-2 c =
    let is = rw (← c.self.view_is) at c.requires.prepared in
    let can = (rw (← c.self.view_is) at c.requires.decided).can in
    let doc : c.args.edit.now.doc ≡ c.first.result.now.doc = ap (λ (a : Asked). a.doc) c.first.ensures in
    let token : c.args.edit.now.token ≡ c.first.result.now.token = ap (λ (a : Asked). a.token) c.first.ensures in
    let first : c.len-first.result ≡ length c.self.inside.log.list = search rules in
    let tokens = action_tokens c.self.inside.tokens c.keep.new.self c.self.inside.id c.self.inside.log.list c.args.edit.now c.args.prepared.place
    is.some is.end is.number (rw token c.in_ok-before.ensures.kept) c.self.invariant.tokens in
    rw (c.push.ensures, c.of.ensures)
    (AreFields-edit c.self.inside.id c.self.inside.opened c.self.inside.settled c.self.inside.acked c.self.inside.told c.args.session c.len-first.result _
    c.self.inside.steps c.self.inside.log c.append_edited.new.self (ops_of c.args.prepared.edited) c.args.edit.now _ c.args.prepared.clock c.self.inside.tokens c.keep.new.self
    c.self.inside.repeats c.self.invariant can is.some is.clock (rw doc c.in-Ok.ensures.ok) is.operations first (ap length c.as_slice-count.ensures) tokens)
