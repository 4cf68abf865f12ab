use Rattle.std.proofs.Common.{◌≡◌, true, take}
use Rattle.replica_core.specs.Places.{anchors_of, are_within}
use Rattle.replica_core.proofs.replica.Replica.anchors.Given as goal

-- the places of the numbers so far, none of which is beyond the end
abbrev pub invariant-loop-number : goal.invariant-loop-number
invariant-loop-number l = record {
  places : l.found.items ≡ anchors_of l.self.list l.doc (take l.number-index l.at) l.side;
  within : are_within l.self.list l.doc (take l.number-index l.at) ≡ true;
}
