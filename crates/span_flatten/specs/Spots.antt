-- Used by private functions and proofs alone.
--
-- At which chunks mark operations are in force, and which chunks have a character that came or went.
use Rattle.std.specs.Prelude.{◌≡◌, ℕ, ◌-◌, ◌≤◌, Bool, true, not, ◌&&◌, nat_le, List, [], ◌∷◌, length}
use Rattle.std.proofs.Common.{get_or}
use Rattle.std.specs.BTreeSet.{contains}
use Rattle.std.specs.Ordering.{nat_cmp}
use Rattle.op_ids.specs.Id.{Id}
use Rattle.op_model.specs.declared.anchor.Anchor.{Anchor}
use Rattle.op_model.specs.declared.anchor.Anchor.TheVariants.{Before, After}
use Rattle.op_model.specs.declared.anchor.Start.{Start}
use Rattle.op_model.specs.declared.anchor.End.{End}
use Rattle.op_model.specs.declared.marking.Marking.{Marking}
use Rattle.char_sequence.specs.Cells.{has_cell}
use Rattle.char_sequence.specs.Chunks.{ChunkCells, cells_of}
use Rattle.char_sequence.specs.Weave.{AreOnce}
use Rattle.span_flatten.specs.declared.spot.Spot.{Spot}
use Rattle.span_flatten.specs.declared.touched.Touched.{Touched}
use Rattle.span_flatten.specs.Reading.{offset}
use Rattle.span_flatten.specs.Sweeping.{has_begun, has_ended}

-- the character that an anchor names
abbrev pub id_of : Anchor → Id
id_of (Before id) = id
id_of (After id) = id

-- at the beginning of the i-th chunk a mark operation with this start has begun, or one with this end has ended
abbrev pub begun_before : ChunkCells → ℕ → Start → Bool
begun_before held i s = has_begun (cells_of held) (offset held i) (offset held i) s

abbrev pub ended_before : ChunkCells → ℕ → End → Bool
ended_before held i e = has_ended (cells_of held) (offset held i) (offset held i) e

-- the chunks are one after the other, and each character is once there; i is one of them, or past the last one
pub record IsBorder (held : ChunkCells) (i : ℕ) : Type 0 where
  pub once : AreOnce (cells_of held)
  pub within : i ≤ length held

-- noted of a mark operation is at which chunks it has begun, and at which ones it has ended
pub record IsSpot (held : ChunkCells) (s : Spot) (m : Marking) : Type 0 where
  pub from : (i : ℕ) → IsBorder held i → nat_le s.from i ≡ begun_before held i m.start
  pub to : (i : ℕ) → IsBorder held i → nat_le s.to i ≡ ended_before held i m.end

-- noted is that of each of these mark operations
abbrev pub AreSpots : ChunkCells → List Spot → List Marking → Type 0
AreSpots held [] [] = Unit {0}
AreSpots held [] (m ∷ ms) = ⊥
AreSpots held (s ∷ ss) [] = ⊥
AreSpots held (s ∷ ss) (m ∷ ms) = IsSpot held s m × AreSpots held ss ms

-- by what is noted a mark operation is in force at the beginning of a chunk, or has ended there
abbrev pub is_across : ℕ → Spot → Bool
is_across i s = nat_le s.from i && not (nat_le s.to i)

abbrev pub is_over : ℕ → Spot → Bool
is_over i s = nat_le s.to i

-- by what is noted a mark operation may be in force somewhere in a chunk
abbrev pub may_cover : ℕ → Spot → Bool
may_cover i s = nat_le (s.from - 1) i && not (nat_le s.to i)

-- a chunk is noted
abbrev pub has_chunk : Touched → ℕ → Bool
has_chunk t i = contains nat_cmp t.chunks i

-- noted is each chunk with one of these characters
abbrev pub NotesChunks : ChunkCells → Touched → (Id → Bool) → Type 0
NotesChunks held t is_in = (id : Id) → is_in id ≡ true → AreOnce (cells_of held) → (i : ℕ) → has_cell (get_or held i []) id ≡ true
    → has_chunk t i ≡ true
