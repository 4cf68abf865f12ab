use Rattle.std.proofs.Common.{◌∙◌, ap, take}
use Rattle.op_model.specs.Telling.{untold}
use Rattle.replica_core.proofs.SoundLemmas.{AreFields-told}
use Rattle.replica_core.proofs.replica.Replica.tell.Goals as goal

pub untold-requires-clause-counted : goal.untold-requires-clause-counted
untold-requires-clause-counted c = rw c.as_slice-list.ensures (record {
  closed = c.self.invariant.sound.closed;
  clock = c.self.invariant.clock;
  index = c.self.invariant.index;
})

pub invariant_of-self : goal.invariant_of-self
invariant_of-self c =
    AreFields-told _ c.in_ok-ops.reached c.max-self-inside.result _ _ _ _ _ c.self.invariant c.in_ok-ops.ensures.within c.max-self-inside.ensures

pub returns-clause-told : goal.returns-clause-told
returns-clause-told c =
    let front = ap (take c.self.inside.settled) c.as_slice-list.ensures in
    rw (← c.self.view_is) (c.in_ok-ops.ensures.told ∙ ap (untold c.args.clock.now) front)
