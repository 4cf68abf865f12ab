-- What anchors keep of a document.
use Rattle.std.specs.Prelude.{◌≡◌, ℕ, Bool, List}
use Rattle.std.specs.List.{list_any}
use Rattle.op_ids.specs.Id.{Id}
use Rattle.op_model.specs.declared.marking.Marking.{Marking}
use Rattle.op_model.specs.declared.op.Op.{Op}
use Rattle.op_model.specs.Made.{is_end_after}
use Rattle.op_model.specs.Marks.{markings}
use Rattle.mark_anchors.specs.declared.edge.Edge.{Edge}

-- what anchors keep: mark operations, and their edges
pub record Kept : Type 0 where
  pub markings : List Marking
  pub edges : List Edge

-- the mark operations that are kept, in the order in which they came
abbrev pub in_order : Kept → List Marking
in_order kept = kept.markings

-- kept are the mark operations that a document has by these operations
pub record AreMarksOf (kept : Kept) (ops : List Op) (doc : ℕ) : Type 0 where
  pub all : in_order kept ≡ markings ops doc

-- some mark operation that is kept ends just after this character
abbrev pub kept_end_after : Kept → Id → Bool
kept_end_after kept id = list_any (λ m. is_end_after id m.end) (in_order kept)
