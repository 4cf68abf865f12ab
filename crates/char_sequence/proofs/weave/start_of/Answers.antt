use Rattle.std.specs.Prelude.{◌≡◌, ℕ, true, false, List, Option, Some, None, MatchOption}
use Rattle.std.proofs.Common.{refl, arith}
use Rattle.op_ids.specs.Id.{Id, is_same}
use Rattle.char_sequence.specs.declared.cell.Cell.{Cell}
use Rattle.char_sequence.specs.Cells.{has_cell}
use Rattle.char_sequence.specs.Links.{cell_at_place}
use Rattle.char_sequence.specs.Weave.{Starts, Weaves}
use Rattle.char_sequence.proofs.WeaveLemmas.{lacks_woven, starts_found}
use Rattle.char_sequence.proofs.weave.start_of.Goals as goal

begins : (cells : List Cell) (id : Id) (place : Option ℕ)
    → MatchOption place (has_cell cells id ≡ false) (λ at. (c : Cell) × (cell_at_place cells at ≡ Some c) × (is_same c.id id ≡ true))
    → (next : List ℕ) (cs : List Cell) (w : Weaves cells next cs)
    → MatchOption place (has_cell cs id ≡ false) (λ from. (has_cell cs id ≡ true) × Starts w.order cs (Some id) from)
begins cells id None none next cs w = lacks_woven cells next cs id w none
begins cells id (Some at) there next cs w = starts_found cells next cs w at there.0 id there.1 there.2

-- what hangs from the beginning starts at the beginning
starts_none : (order : List ℕ) (cs : List Cell) → Starts order cs None 0
starts_none order cs = record { steps = 0; within = omega arith; here = refl; placed = λ once c. refl }

pub returns-in-None : goal.returns-in-None
returns-in-None c = λ next cs w. rw c.in-None.is (refl, starts_none w.order cs)

pub returns-in-Some : goal.returns-in-Some
returns-in-Some c = λ next cs w. rw c.in-Some.is (begins c.args.cells.now c.in-Some.id c.place_of.result c.place_of.ensures next cs w)
