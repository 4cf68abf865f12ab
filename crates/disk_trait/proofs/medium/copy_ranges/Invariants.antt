use Rattle.std.proofs.Common.{drop}
use Rattle.disk_trait.specs.Survivors.{IsSameOutside}
use Rattle.disk_trait.proofs.medium.copy_ranges.Given as goal

abbrev pub invariant-loop-range : goal.invariant-loop-range
invariant-loop-range l = IsSameOutside (drop l.range-index l.ranges) l.file l.bytes
