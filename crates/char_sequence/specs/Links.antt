-- Used by private functions and proofs alone.
--
-- Characters that stay where they came, linked in the order of the text. Places are counted from 1; 0 is the beginning of the
-- text, and what stands behind the last character.
use Rattle.std.specs.Prelude.{◌≡◌, ◌≤◌, ◌<◌, ◌++◌, ◌==◌, ℕ, zero, suc, Bool, false, List, [], ◌∷◌, length, take, drop, Option, Some, None, slice_get}
use Rattle.std.specs.Prelude.{slice_index_or}
use Rattle.std.specs.List.{list_any, cons_option}
use Rattle.char_sequence.specs.declared.cell.Cell.{Cell}
use Rattle.char_sequence.specs.Cells.{past_greater}

-- the place behind a place
abbrev pub next_of : List ℕ → ℕ → ℕ
next_of next at = slice_index_or next at 0

-- the character at a place
abbrev pub cell_at_place : List Cell → ℕ → Option Cell
cell_at_place cells zero = None
cell_at_place cells (suc i) = slice_get cells i

-- from a place on the links lead to these places, at which these characters are, and then to the end
abbrev pub Leads : List Cell → List ℕ → ℕ → List ℕ → List Cell → Type 0
Leads cells next at [] [] = next_of next at ≡ 0
Leads cells next at (p ∷ ps) (c ∷ cs) = (next_of next at ≡ p) × (cell_at_place cells p ≡ Some c) × Leads cells next p ps cs
Leads cells next at [] (c ∷ cs) = ⊥
Leads cells next at (p ∷ ps) [] = ⊥

-- the characters at the places that n links lead to, from a place on
unfoldable pub followed : List Cell → List ℕ → ℕ → ℕ → List Cell
followed cells next at zero = []
followed cells next at (suc n) = cons_option (cell_at_place cells (next_of next at)) (followed cells next (next_of next at) n)

-- a place and those behind it: the one i steps on
abbrev pub spot : ℕ → List ℕ → ℕ → ℕ
spot at ps zero = at
spot at [] (suc i) = at
spot at (p ∷ ps) (suc i) = spot p ps i

-- a place is one of these
abbrev pub has : ℕ → List ℕ → Bool
has p ps = list_any (λ q. q == p) ps

-- each of these once, and below a number
abbrev pub Apart : ℕ → List ℕ → Type 0
Apart n [] = Unit {0}
Apart n (p ∷ ps) = (p < n) × (has p ps ≡ false) × Apart n ps

-- from a place on, and past all greater ids that follow, it is some number of steps to here
pub record Passes (c : Cell) (from : ℕ) (order : List ℕ) (cs : List Cell) (at : ℕ) : Type 0 where
  pub by : ℕ
  pub within : by ≤ length order
  pub here : at ≡ spot from order by
  pub past : past_greater c cs ≡ take by cs ++ c ∷ drop by cs
