use Rattle.std.proofs.Common.{◌≡◌}
use Rattle.std.specs.Prelude.{take}
use Rattle.mark_anchors.proofs.anchors.copied.Given as goal

-- those that were passed are copied
abbrev pub invariant-loop-marking : goal.invariant-loop-marking
invariant-loop-marking l = l.copied.items ≡ take l.marking-index l.markings
