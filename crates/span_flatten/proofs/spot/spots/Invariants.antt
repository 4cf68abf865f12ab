use Rattle.std.proofs.Common.{take}
use Rattle.span_flatten.specs.Spots.{AreSpots}
use Rattle.span_flatten.proofs.spot.spots.Given as goal

-- the spots so far are those of the mark operations so far
abbrev pub invariant-loop-marking : goal.invariant-loop-marking
invariant-loop-marking l = AreSpots l.sequence l.spots.items (take l.marking-index l.markings)
