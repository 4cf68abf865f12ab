use Rattle.std.proofs.Common.{◌≡◌, ◌≤◌, ◌-◌, ◌++◌, length, drop}
use Rattle.mark_anchors.specs.EdgeChunks.{edges_in, AreApart, AreChunks}
use Rattle.mark_anchors.proofs.cuts.chunks_of.Given as goal

-- the chunks so far and the edges that are left are all, and no character is in both
abbrev pub invariant-loop-from : goal.invariant-loop-from
invariant-loop-from l = record {
  within : l.from ≤ length l.edges;
  edges : edges_in l.chunks.items ++ drop l.from l.edges ≡ l.edges;
  chunks : AreChunks l.chunks.items;
  apart : AreApart (edges_in l.chunks.items) (drop l.from l.edges);
}

abbrev pub decreases-loop-from : goal.decreases-loop-from
decreases-loop-from l = length l.edges - l.from
