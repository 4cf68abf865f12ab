-- Used by private functions and proofs alone.
--
-- Cells in twelve bytes, beside the replicas that made their ids.
use Rattle.std.specs.Prelude.{◌≡◌, ◌++◌, ℕ, ◌+◌, ◌*◌, ◌<◌, List, length}
use Rattle.std.proofs.Common.{get_or}
use Rattle.char_sequence.specs.declared.cell.Cell.{Cell}
use Rattle.char_sequence.specs.declared.packed_cell.PackedCell.{PackedCell}

-- the counter of a packed cell
abbrev pub counter_of : PackedCell → ℕ
counter_of p = p.high * 4294967296 + p.low

-- the cell of a packed one, whose replica is one of these
abbrev pub unpacked : List ℕ → PackedCell → Cell
unpacked makers p = record {
  id = record { counter = counter_of p; replica = get_or makers p.maker 0 };
  value = p.value;
  is_removed = p.is_removed;
}

-- a packed cell names one of these replicas, and a counter above 0
pub record IsPacked (makers : List ℕ) (p : PackedCell) : Type 0 where
  pub known : p.maker < length makers
  pub counted : 0 < counter_of p

-- replicas may have been put behind these
abbrev pub Grows : List ℕ → List ℕ → Type 0
Grows old new = (more : List ℕ) × (new ≡ old ++ more)
