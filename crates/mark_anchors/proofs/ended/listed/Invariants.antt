use Rattle.std.proofs.Common.{◌≡◌, ◌++◌, drop}
use Rattle.mark_anchors.specs.Ended.{ended_of}
use Rattle.mark_anchors.proofs.ended.listed.Given as goal

-- those that are listed, and then those of the other mark operations, are all
abbrev pub invariant-loop-marking : goal.invariant-loop-marking
invariant-loop-marking l = l.ids.items ++ ended_of (drop l.marking-index l.markings) ≡ ended_of l.fn.markings
