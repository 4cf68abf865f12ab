use Rattle.std.proofs.Common.{◌≡◌, ◌++◌, drop}
use Rattle.mark_anchors.specs.Edges.{edges_from}
use Rattle.mark_anchors.proofs.edges.listed.Given as goal

-- the edges that are listed, and then those of the other mark operations, are all
abbrev pub invariant-loop-i : goal.invariant-loop-i
invariant-loop-i l = l.edges.items ++ edges_from l.i (drop l.i l.markings) ≡ edges_from 0 l.markings
