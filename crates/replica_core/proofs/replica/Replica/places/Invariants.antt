use Rattle.std.proofs.Common.{◌≡◌, take}
use Rattle.replica_core.specs.Places.{places_of}
use Rattle.replica_core.proofs.replica.Replica.places.Given as goal

-- where the anchors so far stand
abbrev pub invariant-loop-anchor : goal.invariant-loop-anchor
invariant-loop-anchor l = l.found.items ≡ places_of l.self.list l.doc (take l.anchor-index l.anchors)
