-- A cell says whether its character was removed.
use Rattle.std.proofs.Common.{◌≡◌, ℕ, ◌+◌, Bool, List, [], ◌∷◌, ◌++◌, map, Some, refl, sym, ◌∙◌, ap, subst}
use Rattle.std.specs.Prelude.{◌==◌, ◌&&◌}
use Rattle.std.specs.List.{list_any}
use Rattle.op_ids.specs.Id.{Id}
use Rattle.op_ids.proofs.IdLemmas.{same_from_test}
use Rattle.op_model.specs.declared.op.Op.{Op}
use Rattle.op_model.specs.declared.character.Character.{Character}
use Rattle.op_model.specs.Text.{is_removed, is_removal_of}
use Rattle.op_model.specs.Walk.{walk}
use Rattle.char_sequence.specs.declared.cell.Cell.{Cell}
use Rattle.char_sequence.specs.Chunks.{ChunkCells, IsPlaceOf, before, cell_at, cells_of, from}
use Rattle.char_sequence.specs.Content.{cell_of, Holds}
use Rattle.char_sequence.proofs.PlaceLemmas.{from_cell, joined}

-- some operation of the document removes the character of this id
abbrev is_gone : List Op → ℕ → Id → Bool
is_gone ops doc id = list_any (λ op. op.doc == doc && is_removal_of id op.body) ops

-- the cell says whether its character was removed
abbrev IsTold : List Op → ℕ → Cell → Type 0
IsTold ops doc c = c.is_removed ≡ is_gone ops doc c.id

-- each of these does
abbrev AllTold : List Op → ℕ → List Cell → Type 0
AllTold ops doc [] = Unit {0}
AllTold ops doc (c ∷ cs) = IsTold ops doc c × AllTold ops doc cs

all_told : (ops : List Op) (doc : ℕ) (cs : List Character) → AllTold ops doc (map (cell_of ops doc) cs)
all_told ops doc [] = tt
all_told ops doc (c ∷ cs) = (refl, all_told ops doc cs)

in_the_middle : (ops : List Op) (doc : ℕ) (front : List Cell) (c : Cell) (rest : List Cell) → AllTold ops doc (front ++ c ∷ rest) → IsTold ops doc c
in_the_middle ops doc [] c rest all = all.0
in_the_middle ops doc (d ∷ front) c rest all = in_the_middle ops doc front c rest all.1

-- so the cell that has an id says whether that one's character was removed
pub removal_told : (held : ChunkCells) (ops : List Op) (doc : ℕ) (id : Id) (i j : ℕ) (cell : Cell) (c : Character) → IsPlaceOf held id i j
    → cell_at held i j ≡ Some cell → Holds held ops doc → c.id ≡ id → cell.is_removed ≡ is_removed ops doc c
removal_told held ops doc id i j cell c there is holds same =
    let whole : cells_of held ≡ before held i j ++ cell ∷ from held i (j + 1) =
    sym (joined held i j) ∙ ap (λ ds. before held i j ++ ds) (from_cell held i j cell is) in
    let all : AllTold ops doc (before held i j ++ cell ∷ from held i (j + 1)) =
    subst (λ cells. AllTold ops doc cells) (sym holds.content ∙ whole) (all_told ops doc (walk ops doc)) in
    let found = there.cell in
    let alike : cell ≡ there.c = cc in
    let ids : cell.id ≡ id = ap (λ (x : Cell). x.id) alike ∙ same_from_test there.c.id id there.same in
    in_the_middle ops doc (before held i j) cell (from held i (j + 1)) all ∙ ap (λ x. is_gone ops doc x) (ids ∙ sym same)
