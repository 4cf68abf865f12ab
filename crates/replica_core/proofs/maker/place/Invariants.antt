use Rattle.std.proofs.Common.{◌≡◌, drop}
use Rattle.replica_core.specs.Makers.{maker_place, raised}
use Rattle.replica_core.proofs.maker.place.Given as goal

-- it is none of those that were passed
abbrev pub invariant-loop-i : goal.invariant-loop-i
invariant-loop-i l = maker_place l.makers l.replica ≡ raised l.i (maker_place (drop l.i l.makers) l.replica)
