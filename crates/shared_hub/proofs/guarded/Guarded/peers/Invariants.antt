use Rattle.std.proofs.Common.{◌≡◌, take}
use Rattle.shared_hub.specs.Peers.{rows_of}
use Rattle.shared_hub.proofs.guarded.Guarded.peers.Given as goal

-- the rows of the links so far
abbrev pub invariant-loop-peer : goal.invariant-loop-peer
invariant-loop-peer g l = l.peers.items ≡ rows_of l.self.locked.replica.list (take l.peer-index l.peer-items)
