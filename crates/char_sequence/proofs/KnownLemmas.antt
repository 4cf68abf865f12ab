-- Which ids the content of operations has: those of the document's inserts.
use Rattle.std.proofs.Common.{◌≡◌, ℕ, ◌+◌, ◌<◌, Bool, true, false, ◌&&◌, ◌||◌, if◌then◌else◌, nat_lt, List, [], ◌∷◌, length, map, drop, get_or}
use Rattle.std.proofs.Common.{Option, Some, None, refl, sym, ◌∙◌, ap, arith}
use Rattle.std.specs.Option.{MatchOption}
use Rattle.std.specs.Prelude.{◌↔◌}
use Rattle.std.specs.List.{list_all}
use Rattle.std.proofs.lemmas.List.{drop_more}
use Rattle.std.proofs.lemmas.Bool.{and_parts, true≢false}
use Rattle.std.proofs.lemmas.Bool.Decides.{nat_tests}
use Rattle.op_ids.specs.Id.{Id, is_same}
use Rattle.op_model.specs.declared.op.Op.{Op}
use Rattle.op_model.specs.declared.character.Character.{Character}
use Rattle.op_model.specs.Characters.{characters}
use Rattle.op_model.specs.Places.{index_of}
use Rattle.op_model.specs.Placing.{has_id, IsOrderly}
use Rattle.op_model.specs.Walk.{walk, times}
use Rattle.model_laws.proofs.Family.{orderly_members}
use Rattle.char_sequence.specs.declared.cell.Cell.{Cell}
use Rattle.char_sequence.specs.Cells.{has_cell, is_known, place_of, raised, removed, removed_all}
use Rattle.char_sequence.specs.Content.{cell_of, is_there, AreContent}

-- an id is there where it is counted
has_id-times : (cs : List Character) (id : Id) → has_id cs id ≡ nat_lt 0 (times id cs)
has_id-times [] id = refl
has_id-times (c ∷ cs) id = let rest = has_id-times cs id in grind (arith, nat_tests)

-- the walk has the ids of the inserts
has_id-walk : (ops : List Op) (doc : ℕ) (id : Id) → IsOrderly ops doc → has_id (walk ops doc) id ≡ has_id (characters ops doc) id
has_id-walk ops doc id orderly =
    has_id-times (walk ops doc) id
    ∙ (ap (λ n. nat_lt 0 n) (orderly_members ops doc id orderly) ∙ sym (has_id-times (characters ops doc) id))

pub has_cell-map : (ops : List Op) (doc : ℕ) (id : Id) (cs : List Character) → has_cell (map (cell_of ops doc) cs) id ≡ has_id cs id
has_cell-map ops doc id [] = refl
has_cell-map ops doc id (c ∷ cs) = ap (λ r. is_same c.id id || r) (has_cell-map ops doc id cs)

-- the content has the cells of the inserts
pub has_cell-content : (cells : List Cell) (ops : List Op) (doc : ℕ) (id : Id) → AreContent cells ops doc
    → has_cell cells id ≡ has_id (characters ops doc) id
has_cell-content cells ops doc id holds =
    ap (λ cs. has_cell cs id) holds.content ∙ (has_cell-map ops doc id (walk ops doc) ∙ has_id-walk ops doc id holds.orderly)

pub is_known-content : (cells : List Cell) (ops : List Op) (doc : ℕ) (origin : Option Id) → AreContent cells ops doc
    → is_known cells origin ≡ is_there ops doc origin
is_known-content cells ops doc None holds = refl
is_known-content cells ops doc (Some id) holds = has_cell-content cells ops doc id holds

-- this number, where there is one
abbrev found : Bool → ℕ → Option ℕ
found true n = Some n
found false n = None

place_of-map : (ops : List Op) (doc : ℕ) (id : Id) (cs : List Character)
    → place_of id (map (cell_of ops doc) cs) ≡ found (has_id cs id) (index_of id cs)
place_of-map ops doc id [] = refl
place_of-map ops doc id (c ∷ cs) = go (is_same c.id id) (has_id cs id) (index_of id cs) (place_of-map ops doc id cs)
  where
    go : (same known : Bool) (n : ℕ) → place_of id (map (cell_of ops doc) cs) ≡ found known n
        → (if same then Some 0 else raised 1 (place_of id (map (cell_of ops doc) cs))) ≡ found (same || known) (if same then 0 else n + 1)
    go true known n rest = refl
    go false true n rest = rw rest (ap Some (omega arith))
    go false false n rest = rw rest refl

by_found : (known : Bool) (n : ℕ) → MatchOption (found known n) (known ≡ false) (λ i. (known ≡ true) × (i ≡ n))
by_found true n = (refl, refl)
by_found false n = refl

-- the place of a cell is that of its character in the walk
pub place_of-content : (cells : List Cell) (ops : List Op) (doc : ℕ) (id : Id) (result : Option ℕ) → AreContent cells ops doc
    → result ≡ place_of id cells
    → MatchOption result (is_there ops doc (Some id) ≡ false) (λ i. (is_there ops doc (Some id) ≡ true) × (i ≡ index_of id (walk ops doc)))
place_of-content cells ops doc id result holds is_place =
    rw (is_place, holds.content, place_of-map ops doc id (walk ops doc), has_id-walk ops doc id holds.orderly)
    (by_found (has_id (characters ops doc) id) (index_of id (walk ops doc)))

-- what is refused where the cells don't know an origin is refused where the operations don't
pub unknown_there : (cells : List Cell) (ops : List Op) (doc : ℕ) (origin : Option Id) (Refused : Type 0) → AreContent cells ops doc
    → (Refused ↔ (is_known cells origin ≡ false)) → (Refused ↔ (is_there ops doc origin ≡ false))
unknown_there cells ops doc origin Refused holds refused = rw (is_known-content cells ops doc origin holds) at refused

-- what isn't refused, where the cells know the origin
pub none_refused : (known : Bool) (Refused : Type 0) → (Refused → ⊥) → known ≡ true → (Refused ↔ (known ≡ false))
none_refused true Refused never is_known = (λ refused. absurd (never refused), λ no. absurd (true≢false no))
none_refused false Refused never is_known = absurd (true≢false (sym is_known))

all_known-content : (cells : List Cell) (ops : List Op) (doc : ℕ) (ids : List Id) → AreContent cells ops doc
    → list_all (λ id. has_cell cells id) ids ≡ list_all (λ id. is_there ops doc (Some id)) ids
all_known-content cells ops doc [] holds = refl
all_known-content cells ops doc (id ∷ ids) holds =
    ap (λ first. first && list_all (λ n. has_cell cells n) ids) (has_cell-content cells ops doc id holds)
    ∙ ap (λ rest. has_id (characters ops doc) id && rest) (all_known-content cells ops doc ids holds)

-- the same for several characters
pub all_unknown_there : (cells : List Cell) (ops : List Op) (doc : ℕ) (ids : List Id) (Refused : Type 0) → AreContent cells ops doc
    → (Refused ↔ (list_all (λ id. has_cell cells id) ids ≡ false)) → (Refused ↔ (list_all (λ id. is_there ops doc (Some id)) ids ≡ false))
all_unknown_there cells ops doc ids Refused holds refused = rw (all_known-content cells ops doc ids holds) at refused

-- a tombstone is there as before
pub has_cell-removed : (id other : Id) (cs : List Cell) → has_cell (removed id cs) other ≡ has_cell cs other
has_cell-removed id other [] = refl
has_cell-removed id other (c ∷ cs) = go (is_same c.id id) (has_cell-removed id other cs)
  where
    go : (same : Bool) → has_cell (removed id cs) other ≡ has_cell cs other
        → has_cell (if same then record c { is_removed = true } ∷ cs else c ∷ removed id cs) other ≡ has_cell (c ∷ cs) other
    go true rest = refl
    go false rest = ap (λ r. is_same c.id other || r) rest

all_cells-removed : (id : Id) (cs : List Cell) (ids : List Id) → list_all (λ n. has_cell (removed id cs) n) ids ≡ list_all (λ n. has_cell cs n) ids
all_cells-removed id cs [] = refl
all_cells-removed id cs (n ∷ ids) =
    ap (λ first. first && list_all (λ m. has_cell (removed id cs) m) ids) (has_cell-removed id n cs)
    ∙ ap (λ rest. has_cell cs n && rest) (all_cells-removed id cs ids)

-- one of several removes, and then the rest of them
pub one_of_removes : (ids : List Id) (i : ℕ) (id : Id) (cs ds : List Cell) → i < length ids → id ≡ get_or ids i id → ds ≡ removed id cs
    → removed_all (drop i ids) cs ≡ removed_all (drop (i + 1) ids) ds
one_of_removes ids i id cs ds here is_it gone = rw (drop_more ids i id here, ← is_it, gone) refl

pub first_known : (ids : List Id) (i : ℕ) (id : Id) (cs : List Cell) → i < length ids → id ≡ get_or ids i id
    → list_all (λ n. has_cell cs n) (drop i ids) ≡ true → (has_cell cs id ≡ true) × (list_all (λ n. has_cell cs n) (drop (i + 1) ids) ≡ true)
first_known ids i id cs here is_it all =
    and_parts (has_cell cs id) (list_all (λ n. has_cell cs n) (drop (i + 1) ids)) (rw (drop_more ids i id here, ← is_it) at all)

pub rest_known : (ids : List Id) (i : ℕ) (id : Id) (cs ds : List Cell) → i < length ids → id ≡ get_or ids i id → ds ≡ removed id cs
    → list_all (λ n. has_cell cs n) (drop i ids) ≡ true → list_all (λ n. has_cell ds n) (drop (i + 1) ids) ≡ true
rest_known ids i id cs ds here is_it gone all =
    rw (gone, all_cells-removed id cs (drop (i + 1) ids)) (first_known ids i id cs here is_it all).1
