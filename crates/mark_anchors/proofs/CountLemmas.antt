-- How many characters stand before one.
use Rattle.std.proofs.Common.{◌≡◌, ℕ, false, List, [], ◌∷◌, Some, length, map}
use Rattle.std.proofs.Common.{refl, sym, ◌∙◌, ap, arith}
use Rattle.std.proofs.lemmas.Bool.{or_parts}
use Rattle.std.proofs.lemmas.List.{length-map}
use Rattle.op_ids.specs.Id.{Id, is_same}
use Rattle.op_model.specs.declared.character.Character.{Character}
use Rattle.op_model.specs.declared.op.Op.{Op}
use Rattle.op_model.specs.Places.{index_of}
use Rattle.op_model.specs.Walk.{walk}
use Rattle.char_sequence.specs.declared.cell.Cell.{Cell}
use Rattle.char_sequence.specs.Cells.{has_cell}
use Rattle.char_sequence.specs.Content.{cell_of, is_there, AreContent}
use Rattle.char_sequence.proofs.KnownLemmas.{has_cell-content}

-- each of these characters stands before one that is none of them
not_there : (ops : List Op) (doc : ℕ) (id : Id) (cs : List Character) → has_cell (map (cell_of ops doc) cs) id ≡ false
    → index_of id cs ≡ length cs
not_there ops doc id [] none = refl
not_there ops doc id (c ∷ cs) none =
    let both = or_parts (is_same c.id id) (has_cell (map (cell_of ops doc) cs) id) none in
    rw (both.0) (let rest = not_there ops doc id cs both.1 in omega arith)

-- as many cells as there are characters
pub as_many : (cells : List Cell) (ops : List Op) (doc : ℕ) → AreContent cells ops doc → length cells ≡ length (walk ops doc)
as_many cells ops doc holds = ap length holds.content ∙ length-map (walk ops doc) (cell_of ops doc)

-- as many characters stand before one that isn't there
pub past_all : (cells : List Cell) (ops : List Op) (doc : ℕ) (id : Id) (count : ℕ) → AreContent cells ops doc → count ≡ length cells
    → is_there ops doc (Some id) ≡ false → count ≡ index_of id (walk ops doc)
past_all cells ops doc id count holds all none =
    let unknown : has_cell (map (cell_of ops doc) (walk ops doc)) id ≡ false =
    ap (λ cs. has_cell cs id) (sym holds.content) ∙ (has_cell-content cells ops doc id holds ∙ none) in
    all ∙ (as_many cells ops doc holds ∙ sym (not_there ops doc id (walk ops doc) unknown))
