-- Cells of which no two have one id: the cell of an id is the only one.
use Rattle.std.proofs.Common.{◌≡◌, ℕ, ◌+◌, ◌≤◌, Bool, true, false, if◌then◌else◌, List, [], ◌∷◌, ◌++◌, map, refl, sym, ◌∙◌, ap, arith}
use Rattle.std.proofs.lemmas.Bool.{or_from}
use Rattle.std.proofs.lemmas.Bool.Decides.{nat_tests}
use Rattle.std.proofs.lemmas.List.Folds.{list_any-append}
use Rattle.op_ids.specs.Id.{Id, is_same}
use Rattle.op_ids.proofs.IdLemmas.{same_from_test, test_from_same}
use Rattle.op_model.specs.declared.op.Op.{Op}
use Rattle.op_model.specs.declared.character.Character.{Character}
use Rattle.op_model.specs.Walk.{walk, times}
use Rattle.model_laws.proofs.Family.{orderly_once}
use Rattle.char_sequence.specs.declared.cell.Cell.{Cell}
use Rattle.char_sequence.specs.Cells.{behind, has_cell, past_greater, removed}
use Rattle.char_sequence.specs.Content.{cell_of, AreContent}
use Rattle.char_sequence.specs.Weave.{AreOnce}

-- what is counted nowhere has no cell
uncounted : (ops : List Op) (doc : ℕ) (id : Id) (cs : List Character) → times id cs ≡ 0 → has_cell (map (cell_of ops doc) cs) id ≡ false
uncounted ops doc id [] none = refl
uncounted ops doc id (c ∷ cs) none =
    let first : is_same c.id id ≡ false = grind (arith, nat_tests) in
    let rest : times id cs ≡ 0 = grind (arith, nat_tests) in
    or_from (is_same c.id id) (has_cell (map (cell_of ops doc) cs) id) first (uncounted ops doc id cs rest)

once_map : (ops : List Op) (doc : ℕ) (cs : List Character) → ((id : Id) → times id cs ≤ 1) → AreOnce (map (cell_of ops doc) cs)
once_map ops doc [] once = tt
once_map ops doc (c ∷ cs) once =
    let none : times c.id cs ≡ 0 = first_only c.id cs (once c.id) in
    (uncounted ops doc c.id cs none, once_map ops doc cs (λ id. fewer c id cs (once id)))
  where
    first_only : (id : Id) (ds : List Character) → (if is_same id id then 1 else 0) + times id ds ≤ 1 → times id ds ≡ 0
    first_only id ds most = let same = test_from_same id id refl in grind (arith, nat_tests)

    fewer : (d : Character) (id : Id) (ds : List Character) → times id (d ∷ ds) ≤ 1 → times id ds ≤ 1
    fewer d id ds most = grind (arith, nat_tests)

-- the content of a document has no id twice
pub once_content : (cells : List Cell) (ops : List Op) (doc : ℕ) → AreContent cells ops doc → AreOnce cells
once_content cells ops doc holds = rw holds.content (once_map ops doc (walk ops doc) (λ id. orderly_once ops doc id holds.orderly))

-- a cell with the id further on: this one has another
pub other_id : (e d : Cell) (front rest : List Cell) (id : Id) → has_cell (front ++ d ∷ rest) e.id ≡ false → is_same d.id id ≡ true → is_same e.id id ≡ false
other_id e d front rest id none same = go (is_same e.id id) refl
  where
    go : (hit : Bool) → is_same e.id id ≡ hit → hit ≡ false
    go false it = refl
    go true it =
        let one : d.id ≡ e.id = same_from_test d.id id same ∙ sym (same_from_test e.id id it) in
        let there = test_from_same d.id e.id one in
        let parts = sym (list_any-append (λ c. is_same c.id e.id) front (d ∷ rest)) ∙ none in
        grind (arith, nat_tests)

-- what hangs from a cell goes behind it
pub behind_there : (front : List Cell) (d : Cell) (rest : List Cell) (id : Id) (c : Cell) → AreOnce (front ++ d ∷ rest) → is_same d.id id ≡ true
    → behind id c (front ++ d ∷ rest) ≡ (front ++ d ∷ []) ++ past_greater c rest
behind_there [] d rest id c once same = rw same refl
behind_there (e ∷ front) d rest id c once same =
    let other = other_id e d front rest id once.0 same in
    rw other (ap (λ ds. e ∷ ds) (behind_there front d rest id c once.1 same))

-- a remove of a cell's id makes it a tombstone
pub removed_here : (front : List Cell) (d : Cell) (rest : List Cell) (id : Id) → AreOnce (front ++ d ∷ rest) → is_same d.id id ≡ true
    → removed id (front ++ d ∷ rest) ≡ front ++ record d { is_removed = true } ∷ rest
removed_here [] d rest id once same = rw same refl
removed_here (e ∷ front) d rest id once same =
    let other = other_id e d front rest id once.0 same in
    rw other (ap (λ ds. e ∷ ds) (removed_here front d rest id once.1 same))
