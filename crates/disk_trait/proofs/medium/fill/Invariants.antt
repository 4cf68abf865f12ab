use Rattle.std.proofs.Common.{◌≡◌, drop}
use Rattle.disk_trait.specs.Crash.{filled}
use Rattle.disk_trait.proofs.medium.fill.Given as goal

abbrev pub invariant-loop-at : goal.invariant-loop-at
invariant-loop-at l = filled l.byte (drop l.at-index l.ranges) l.bytes ≡ filled l.byte l.ranges l.initial.bytes
