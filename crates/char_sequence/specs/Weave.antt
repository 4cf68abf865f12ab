-- Used by private functions and proofs alone.
--
-- What a weave holds.
use Rattle.std.specs.Prelude.{◌≡◌, ◌≤◌, ◌<◌, ◌++◌, ℕ, suc, true, false, List, [], ◌∷◌, length, take, drop, Option}
use Rattle.op_ids.specs.Id.{Id}
use Rattle.char_sequence.specs.declared.cell.Cell.{Cell}
use Rattle.char_sequence.specs.Cells.{past_greater, inserted, has_cell}
use Rattle.char_sequence.specs.Links.{Apart, Leads, followed, has, spot}

-- characters in the order in which they came, linked, are these cells in the order of the text
pub record Weaves (cells : List Cell) (next : List ℕ) (cs : List Cell) : Type 0 where
  -- their places in the order of the text
  pub order : List ℕ
  pub leads : Leads cells next 0 order cs
  pub apart : Apart (suc (length cells)) (0 ∷ order)
  pub all : (i : ℕ) → i < length cells → has (suc i) order ≡ true
  pub many : length order ≡ length cells
  pub links : length next ≡ suc (length cells)

-- the cells in the order of the text: those at the places that the links lead to from the beginning, as many as there are
abbrev pub woven : List Cell → List ℕ → List Cell
woven cells next = followed cells next 0 (length cells)

-- the links lead through all characters, each once, and then to the end
abbrev pub IsWoven : List Cell → List ℕ → Type 0
IsWoven cells next = Weaves cells next (woven cells next)

-- no two of these have one id
abbrev pub AreOnce : List Cell → Type 0
AreOnce [] = Unit {0}
AreOnce (c ∷ cs) = (has_cell cs c.id ≡ false) × AreOnce cs

-- a place is some number of steps from the beginning, and what hangs from this origin goes behind it, past all greater ids that follow
pub record Starts (order : List ℕ) (cs : List Cell) (origin : Option Id) (from : ℕ) : Type 0 where
  pub steps : ℕ
  pub within : steps ≤ length order
  pub here : from ≡ spot 0 order steps
  pub placed : AreOnce cs → (c : Cell) → inserted origin c cs ≡ take steps cs ++ past_greater c (drop steps cs)
