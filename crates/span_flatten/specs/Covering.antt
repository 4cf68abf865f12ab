-- Used by private functions and proofs alone.
--
-- Which cells of a document a mark operation covers.
use Rattle.std.specs.Prelude.{ℕ, ◌+◌, Bool, ◌&&◌, nat_lt, nat_le, if◌then◌else◌, List, [], ◌∷◌, length, filter}
use Rattle.op_ids.specs.Id.{Id, is_same}
use Rattle.op_model.specs.declared.anchor.Anchor.TheVariants.{Before, After}
use Rattle.op_model.specs.declared.anchor.Start.{Start}
use Rattle.op_model.specs.declared.anchor.Start.TheVariants as start
use Rattle.op_model.specs.declared.anchor.End.{End}
use Rattle.op_model.specs.declared.anchor.End.TheVariants as end
use Rattle.op_model.specs.declared.marking.Marking.{Marking}
use Rattle.char_sequence.specs.declared.cell.Cell.{Cell}

-- how many cells stand before the one with this id; all of them where there is none
abbrev pub index_in : Id → List Cell → ℕ
index_in id [] = 0
index_in id (c ∷ cs) = if is_same c.id id then 0 else index_in id cs + 1

-- the first cell that a mark operation with this start can cover
abbrev pub covered_from : List Cell → Start → ℕ
covered_from cells start.OfText = 0
covered_from cells (start.From (Before id)) = index_in id cells
covered_from cells (start.From (After id)) = index_in id cells + 1

-- the first cell that a mark operation with this end doesn't reach
abbrev pub covered_to : List Cell → End → ℕ
covered_to cells (end.To (Before id)) = index_in id cells
covered_to cells (end.To (After id)) = index_in id cells + 1
covered_to cells end.OfText = length cells

-- a mark operation covers the k-th cell
abbrev pub covers_cell : List Cell → ℕ → Marking → Bool
covers_cell cells k m = nat_le (covered_from cells m.start) k && nat_lt k (covered_to cells m.end)

-- the mark operations that cover the k-th cell
abbrev pub covering : List Cell → List Marking → ℕ → List Marking
covering cells ms k = filter (λ m. covers_cell cells k m) ms
