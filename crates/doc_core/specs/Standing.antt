-- What a document stands for.
use Rattle.std.specs.Prelude.{◌≡◌, ℕ, Bool, true, false, not, List, [], ◌∷◌, ◌++◌, filter, min}
use Rattle.std.specs.List.{list_all, list_any}
use Rattle.op_ids.specs.Id.{Id, is_same}
use Rattle.list_counts.specs.Documents.{first_writers}
use Rattle.op_model.specs.declared.op.Op.{Op}
use Rattle.op_model.specs.declared.op.Body.{Body}
use Rattle.op_model.specs.declared.op.Body.TheVariants.{Insert, Remove, AddMark, RemoveMark}
use Rattle.op_model.specs.Text.{rev}
use Rattle.op_model.specs.Causality.{named_by}
use Rattle.op_model.specs.Characters.{characters}
use Rattle.op_model.specs.Placing.{has_id, Fits}
use Rattle.char_sequence.specs.Chunks.{ChunkCells}
use Rattle.char_sequence.specs.Content.{Holds, FitAfter}
use Rattle.mark_anchors.specs.Keeping.{Kept, AreMarksOf}

-- a document as contracts see it: its number, its characters, its mark operations, how many operations it counts, and who wrote in it
pub record Document : Type 0 where
  pub number : ℕ
  pub characters : ChunkCells
  pub marks : Kept
  pub rev : ℕ
  pub writers : List ℕ

-- a count of 64 bits stays at its greatest
abbrev pub counted : ℕ → ℕ
counted n = min n 18446744073709551615

-- the document is what these operations make of it, one after another: it holds their characters and their mark operations, counts
-- those of its own, and knows who made them
pub record StandsFor (d : Document) (ops : List Op) : Type 0 where
  pub characters : Holds d.characters ops d.number
  pub marks : AreMarksOf d.marks ops d.number
  pub rev : d.rev ≡ counted (rev ops d.number)
  pub writers : d.writers ≡ first_writers ops d.number

-- From standing for any operations that this one fits, the call leads to standing for them and it.
abbrev pub Takes : Op → Document → Document → Type 0
Takes op old new = (ops : List Op) → StandsFor old ops → Fits ops old.number op → StandsFor new (ops ++ op ∷ [])

-- From standing for any operations that these fit, one after another, the call leads to standing for all.
abbrev pub TakesAll : List Op → Document → Document → Type 0
TakesAll edit old new = (ops : List Op) → StandsFor old ops → FitAfter ops old.number edit → StandsFor new (ops ++ edit)

-- removes a character
abbrev pub is_remove : Body → Bool
is_remove (Remove target) = true
is_remove (Insert origin value) = false
is_remove (AddMark mark start end) = false
is_remove (RemoveMark key start end) = false

-- each of them removes a character
abbrev pub are_removes : List Op → Bool
are_removes ops = list_all (λ op. is_remove op.body) ops

-- these characters are all there
abbrev pub are_there : List Op → ℕ → List Id → Bool
are_there ops doc ids = list_all (λ id. has_id (characters ops doc) id) ids

-- the character that an operation inserts, before others
abbrev pub with_inserted : Id → Body → List Id → List Id
with_inserted id (Insert origin value) ids = id ∷ ids
with_inserted id (Remove target) ids = ids
with_inserted id (AddMark mark start end) ids = ids
with_inserted id (RemoveMark key start end) ids = ids

-- the characters that operations name, but for these, and those that one of them inserted before
abbrev pub named_outside : List Id → List Op → List Id
named_outside own [] = []
named_outside own (op ∷ ops) =
    filter (λ id. not (list_any (λ o. is_same o id) own)) (named_by op.body) ++ named_outside (with_inserted op.id op.body own) ops
