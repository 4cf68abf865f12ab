use Rattle.std.proofs.Common.{sym, ◌≡◌, [], ◌∷◌, ◌∙◌, length, ap, Err, refl, rules, arith}
use Rattle.std.proofs.lemmas.Bool.{eq-eqb}
use Rattle.model_laws.proofs.Closed.{follows_fits}
use Rattle.op_ids.specs.Clock.{advanced}
use Rattle.replica_core.proofs.DocLemmas.{docs_up}
use Rattle.replica_core.proofs.FollowLemmas.{stream_fits}
use Rattle.replica_core.proofs.LimitLemmas.{never_overfull}
use Rattle.replica_core.proofs.SoundLemmas.{AreFields-merge, list_fits}
use Rattle.replica_core.proofs.replica.Replica.put_merge.Goals as goal

pub advance-requires : goal.advance-requires
advance-requires c =
    let can = rw (← c.self.view_is) at c.requires in
    rw (c.in_ok-clock.ensures, c.replica.ensures)
    (never_overfull c.self.inside.log.list c.args.op c.self.inside.clock can.joins.follows c.self.invariant.clock)

pub place-place-requires : goal.place-place-requires
place-place-requires c = rw c.deref.ensures.value (docs_up c.self.inside.log.docs.items c.self.inside.log.list c.self.invariant.docs)

pub append-requires-clause-own : goal.append-requires-clause-own
append-requires-clause-own c = rw (c.in_ok-made.ensures, c.replica-replica.ensures, eq-eqb c.args.op.id.replica c.args.op.id.replica refl) refl

pub append-requires-clause-room : goal.append-requires-clause-room
append-requires-clause-room c =
    let can = rw (← c.self.view_is) at c.requires in
    record {
      few = rw c.in_ok-made.ensures (list_fits c.self.inside.log.list (c.args.op ∷ []) can.joins.follows.limits);
      stream = c.self.invariant.index.stream;
      small = rw c.in_ok-made.ensures (stream_fits c.self.inside.log.list (c.args.op ∷ []) can.joins.follows.limits);
    }

pub invariant_of-self-2 : goal.invariant_of-self-2
invariant_of-self-2 c =
    let can = rw (← c.self.view_is) at c.requires in
    let at : c.len-index.result ≡ length c.self.inside.log.list = search rules in
    let counts : c.advance.new.clock ≡ advanced c.self.inside.clock c.args.op.id.replica = rw (c.in_ok-clock.ensures, c.replica.ensures) at c.in_ok-advance.ensures in
    let again = (rw c.deref-2.ensures.value at c.is_repeat-is_repeat.ensures) c.self.inside.log.list c.self.invariant.docs can.joins.follows in
    rw c.push.ensures
    (AreFields-merge c.self.inside.id c.self.inside.opened c.self.inside.settled c.self.inside.acked c.self.inside.told c.args.peer c.len-index.result
    c.self.inside.steps c.self.inside.log c.append.new.self c.in_ok-made.made c.args.op c.self.inside.clock c.advance.new.clock c.self.inside.tokens
    c.self.inside.repeats c.note.new.self c.self.invariant can counts c.in-Ok.ensures.ok c.in_ok-made.ensures at
    (c.in_ok-note.ensures.noted c.self.inside.log.list c.args.op c.self.invariant.repeats (sym at) again) c.note.ensures.from)

pub unreachable-requires : goal.unreachable-requires
unreachable-requires c =
    let can = rw (← c.self.view_is) at c.requires in
    let come = follows_fits c.self.inside.log.list c.args.op.doc c.args.op can.joins.follows refl in
    c.append.ensures.known (c.in-Err-UnknownId.is ∙ ap Err c.in-Err-UnknownId.field-0-is) c.self.invariant.docs (rw c.in_ok-made.ensures (come, tt))

pub push-requires : goal.push-requires
push-requires c =
    let can = rw (← c.self.view_is) at c.requires in
    let places = can.places in
    omega arith

-- the note is taken back with the operation
pub invariant_of-self-in-Err-Memory : goal.invariant_of-self-in-Err-Memory
invariant_of-self-in-Err-Memory c =
    let can = rw (← c.self.view_is) at c.requires in
    let at : c.len-index.result ≡ length c.self.inside.log.list = search rules in
    let again = (rw c.deref-2.ensures.value at c.is_repeat-is_repeat.ensures) c.self.inside.log.list c.self.invariant.docs can.joins.follows in
    let noted = c.in_ok-note.ensures.noted c.self.inside.log.list c.args.op c.self.invariant.repeats (sym at) again in
    let same = c.in-Err-Memory.ensures.err in
    rw (same.list, same.docs) (record {
      sound = c.self.invariant.sound;
      clock = c.self.invariant.clock;
      docs = c.self.invariant.docs;
      index = same.index c.self.inside.log.list c.self.invariant.index;
      tokens = c.self.invariant.tokens;
      repeats = c.forget.ensures.forgotten c.self.inside.log.list c.args.op noted (sym at);
      noted_from = c.forget.ensures.from ∙ (c.note.ensures.from ∙ c.self.invariant.noted_from);
    })
