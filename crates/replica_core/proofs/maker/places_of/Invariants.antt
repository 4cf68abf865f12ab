use Rattle.std.proofs.Common.{◌≡◌, drop}
use Rattle.replica_core.specs.Makers.{places_of}
use Rattle.replica_core.proofs.maker.places_of.Given as goal

abbrev pub invariant-loop-maker : goal.invariant-loop-maker
invariant-loop-maker l = places_of l.makers l.replica ≡ places_of (drop l.maker-index l.makers) l.replica
