use Rattle.std.proofs.Common.{◌≡◌, ◌++◌, drop}
use Rattle.list_counts.specs.Versions.{makers, versions}
use Rattle.replica_core.specs.Versions.{IsAtMost, versions_from}
use Rattle.replica_core.proofs.versions.versions_of.Given as goal

-- those that have ended, and those of the operations that weren't passed yet, after the last one so far
abbrev pub invariant-loop-at : goal.invariant-loop-at
invariant-loop-at l =
    (versions l.list l.doc l.every ≡ l.ended.items ++ versions_from l.every l.last (makers (drop l.at l.list) l.doc)) × IsAtMost l.at l.last
