-- What a sequence holds of a document, as a list of operations makes it.
use Rattle.std.specs.Prelude.{◌≡◌, ℕ, Bool, true, List, [], ◌∷◌, ◌++◌, map, Option, Some, None}
use Rattle.op_ids.specs.Id.{Id}
use Rattle.char_sequence.specs.declared.cell.Cell.{Cell}
use Rattle.char_sequence.specs.Chunks.{ChunkCells, cells_of}
use Rattle.op_model.specs.declared.op.Op.{Op}
use Rattle.op_model.specs.declared.op.Body.{Body}
use Rattle.op_model.specs.declared.op.Body.TheVariants.{Insert, Remove}
use Rattle.op_model.specs.declared.character.Character.{Character}
use Rattle.op_model.specs.Walk.{walk}
use Rattle.op_model.specs.Text.{is_removed}
use Rattle.op_model.specs.Characters.{characters}
use Rattle.op_model.specs.Placing.{has_id, Fits, IsOrderly}

-- what the sequence of an empty document holds
abbrev pub empty : ChunkCells
empty = []

-- a character's cell: its id, its value, and whether some operation of the document removes it
abbrev pub cell_of : List Op → ℕ → Character → Cell
cell_of ops doc c = record { id = c.id; value = c.value; is_removed = is_removed ops doc c }

-- all characters of a document in the order of the walk, tombstones too
abbrev pub content_of : List Op → ℕ → List Cell
content_of ops doc = map (cell_of ops doc) (walk ops doc)

-- these cells are the content of these operations, which can be applied one after another
pub record AreContent (cells : List Cell) (ops : List Op) (doc : ℕ) : Type 0 where
  pub orderly : IsOrderly ops doc
  pub content : cells ≡ content_of ops doc

-- held is the content of these operations, which can be applied one after another
abbrev pub Holds : ChunkCells → List Op → ℕ → Type 0
Holds held ops doc = AreContent (cells_of held) ops doc

-- the beginning of the text, or the id of one of the document's inserts
abbrev pub is_there : List Op → ℕ → Option Id → Bool
is_there ops doc None = true
is_there ops doc (Some id) = has_id (characters ops doc) id

-- Where old is the content of any operations that an operation of this id and body fits, new is that of them and it.
abbrev pub TakesCell : Id → Body → List Cell → List Cell → Type 0
TakesCell id does old new = (ops : List Op) (doc : ℕ) (op : Op) → Fits ops doc op → op.id ≡ id → op.body ≡ does
    → AreContent old ops doc → AreContent new (ops ++ op ∷ []) doc

-- Where old holds any operations that an operation of this id and body fits, new holds them and it.
abbrev pub TakesOperation : Id → Body → ChunkCells → ChunkCells → Type 0
TakesOperation id does old new = TakesCell id does (cells_of old) (cells_of new)

-- these operations are a run of inserts, each behind the one before
abbrev pub IsRun : Option Id → List (Id × ℕ) → List Op → Type 0
IsRun origin [] [] = Unit {0}
IsRun origin [] (op ∷ ops) = ⊥
IsRun origin (x ∷ xs) [] = ⊥
IsRun origin (x ∷ xs) (op ∷ ops) = (op.id ≡ x.0) × (op.body ≡ Insert origin x.1) × IsRun (Some x.0) xs ops

-- each of these operations fits after those before it
abbrev pub FitAfter : List Op → ℕ → List Op → Type 0
FitAfter ops doc [] = Unit {0}
FitAfter ops doc (op ∷ more) = Fits ops doc op × FitAfter (ops ++ op ∷ []) doc more

-- Where old holds any operations that a run of inserts fits, new holds them and the run.
abbrev pub TakesRun : Option Id → List (Id × ℕ) → ChunkCells → ChunkCells → Type 0
TakesRun origin run old new = (ops : List Op) (doc : ℕ) (more : List Op) → FitAfter ops doc more → IsRun origin run more
    → Holds old ops doc → Holds new (ops ++ more) doc

-- these operations remove the characters of these ids
abbrev pub AreRemoves : List Id → List Op → Type 0
AreRemoves [] [] = Unit {0}
AreRemoves [] (op ∷ ops) = ⊥
AreRemoves (id ∷ ids) [] = ⊥
AreRemoves (id ∷ ids) (op ∷ ops) = (op.body ≡ Remove id) × AreRemoves ids ops

-- Where old holds any operations that removes of these characters fit, new holds them and the removes.
abbrev pub TakesRemoves : List Id → ChunkCells → ChunkCells → Type 0
TakesRemoves ids old new = (ops : List Op) (doc : ℕ) (more : List Op) → FitAfter ops doc more → AreRemoves ids more
    → Holds old ops doc → Holds new (ops ++ more) doc
