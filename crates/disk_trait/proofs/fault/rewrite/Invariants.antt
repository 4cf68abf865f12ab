use Rattle.std.proofs.Common.{◌≡◌, ◌+◌, ◌-◌, ◌≤◌, ◌↔◌, length}
use Rattle.disk_trait.specs.Calls.{Tears}
use Rattle.disk_trait.specs.Fault.{extended}
use Rattle.disk_trait.proofs.fault.rewrite.Given as goal

abbrev pub invariant-pieces : goal.invariant-pieces
invariant-pieces g l = let disk = g.D.DiskFacts in record {
  within : l.done ≤ l.len;
  tells : disk.tells l.disk ↔ disk.tells l.initial.disk;
  torn : disk.tells l.initial.disk → Tears disk l.pos l.len l.initial.disk l.disk;
  same : disk.tells l.initial.disk → l.pos ≤ length (disk.content l.initial.disk) → disk.content l.disk ≡ extended (disk.content l.initial.disk) (l.pos + l.done);
  kept : disk.tells l.initial.disk → disk.failures l.disk ≡ disk.failures l.initial.disk;
}

abbrev pub decreases-pieces : goal.decreases-pieces
decreases-pieces g l = l.len - l.done
