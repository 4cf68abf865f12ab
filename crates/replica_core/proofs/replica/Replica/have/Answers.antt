use Rattle.replica_core.proofs.replica.Replica.have.Goals as goal

pub clock_of_front-requires : goal.clock_of_front-requires
clock_of_front-requires c = rw c.as_slice-list.ensures (record {
  closed = c.self.invariant.sound.closed;
  clock = c.self.invariant.clock;
  index = c.self.invariant.index;
})
