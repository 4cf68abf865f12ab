-- Where mark operations begin and end: characters, and a side of each.
use Rattle.std.specs.Prelude.{ℕ, ◌+◌, Bool, true, false, List, [], ◌∷◌, ◌++◌}
use Rattle.std.specs.List.Sorted.{IsPermutation, IsSortedBy}
use Rattle.op_ids.specs.Id.{is_below}
use Rattle.op_model.specs.declared.anchor.Anchor.{Anchor}
use Rattle.op_model.specs.declared.anchor.Anchor.TheVariants.{Before, After}
use Rattle.op_model.specs.declared.anchor.Start.{Start}
use Rattle.op_model.specs.declared.anchor.Start.TheVariants as start
use Rattle.op_model.specs.declared.anchor.End.{End}
use Rattle.op_model.specs.declared.anchor.End.TheVariants as end
use Rattle.op_model.specs.declared.marking.Marking.{Marking}
use Rattle.mark_anchors.specs.declared.edge.Edge.{Edge}

-- the edge of the i-th mark operation at an anchor
abbrev pub edge_beside : Anchor → Bool → ℕ → Edge
edge_beside (Before id) is_end i = record { id = id; is_after = false; is_end = is_end; marking = i }
edge_beside (After id) is_end i = record { id = id; is_after = true; is_end = is_end; marking = i }

-- the edge of a start, if it names a character
abbrev pub start_edges : ℕ → Start → List Edge
start_edges i start.OfText = []
start_edges i (start.From anchor) = edge_beside anchor false i ∷ []

-- the edge of an end, if it names a character
abbrev pub end_edges : ℕ → End → List Edge
end_edges i end.OfText = []
end_edges i (end.To anchor) = edge_beside anchor true i ∷ []

-- the edges of the i-th mark operation
abbrev pub edges_of : ℕ → Marking → List Edge
edges_of i m = start_edges i m.start ++ end_edges i m.end

-- the edges of mark operations of which the first is the i-th
abbrev pub edges_from : ℕ → List Marking → List Edge
edges_from i [] = []
edges_from i (m ∷ ms) = edges_of i m ++ edges_from (i + 1) ms

-- these edges are those of these mark operations, each as often as it is theirs, in any order
pub record AreEdges (ms : List Marking) (es : List Edge) : Type 0 where
  pub all : IsPermutation (edges_from 0 ms) es

-- an edge's character comes before another's, by its id
abbrev pub comes_before : Edge → Edge → Bool
comes_before e f = is_below e.id f.id

-- these edges come in the order of their characters' ids
abbrev pub AreInOrder : List Edge → Type 0
AreInOrder es = IsSortedBy comes_before es
