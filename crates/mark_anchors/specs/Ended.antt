-- The characters that mark operations end just after.
use Rattle.std.specs.Prelude.{◌≡◌, List, [], ◌∷◌, ◌++◌}
use Rattle.op_ids.specs.Id.{Id}
use Rattle.op_model.specs.declared.anchor.Anchor.TheVariants.{Before, After}
use Rattle.op_model.specs.declared.anchor.End.{End}
use Rattle.op_model.specs.declared.anchor.End.TheVariants as end
use Rattle.op_model.specs.declared.marking.Marking.{Marking}
use Rattle.mark_anchors.specs.declared.edge.Edge.{Edge}
use Rattle.mark_anchors.specs.Edges.{AreEdges}

-- the character that a mark operation ends just after, if this is its end
abbrev pub ended_by : End → List Id
ended_by end.OfText = []
ended_by (end.To (Before id)) = []
ended_by (end.To (After id)) = id ∷ []

-- the characters that these mark operations end just after, in their order
abbrev pub ended_of : List Marking → List Id
ended_of [] = []
ended_of (m ∷ ms) = ended_by m.end ++ ended_of ms

-- of these mark operations the edges are kept, and the characters that they end just after
pub record AreAllKept (ms : List Marking) (es : List Edge) (ids : List Id) : Type 0 where
  pub edges : AreEdges ms es
  pub ended : ids ≡ ended_of ms
