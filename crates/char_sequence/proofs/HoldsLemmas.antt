-- What is held of a document, with one operation more, or several.
use Rattle.std.proofs.Common.{◌≡◌, ℕ, ◌==◌, true, false, List, [], ◌∷◌, ◌++◌, Option, refl, sym, ◌∙◌, ap, append_assoc, append-nil}
use Rattle.std.proofs.lemmas.Bool.{both_ways, eq-eqb}
use Rattle.op_ids.specs.Id.{Id}
use Rattle.op_model.specs.declared.op.Op.{Op}
use Rattle.op_model.specs.declared.op.Body.TheVariants.{Insert, Remove}
use Rattle.op_model.specs.Placing.{Fits, IsOrderly}
use Rattle.model_laws.proofs.Growth.{orderly_push}
use Rattle.char_sequence.specs.declared.cell.Cell.{Cell}
use Rattle.char_sequence.specs.Cells.{inserted, removed, removed_all}
use Rattle.char_sequence.specs.Chunks.{ChunkCells, cells_of}
use Rattle.char_sequence.specs.Content.{content_of, AreContent, AreRemoves, TakesCell, TakesRemoves, FitAfter}
use Rattle.char_sequence.proofs.ContentLemmas.{content_of-insert, content_of-marking, content_of-other, content_of-remove, is_marking}

-- what is held of a document without operations
pub holds_empty : (doc : ℕ) → AreContent [] [] doc
holds_empty doc = record { orderly = tt; content = refl }

-- a mark operation leaves what is held as it is
pub holds_marking : (held : List Cell) (op : Op) → is_marking op.body ≡ true → (ops : List Op) (doc : ℕ) → AreContent held ops doc → Fits ops doc op
    → AreContent held (ops ++ op ∷ []) doc
holds_marking held op marks ops doc holds fits = record {
  orderly = orderly_push ops doc op holds.orderly (λ _. fits);
  content = holds.content ∙ sym (content_of-marking ops doc op holds.orderly fits marks);
}

-- so does an operation of another document
pub holds_other : (held : List Cell) (ops : List Op) (doc : ℕ) (op : Op) → (op.doc == doc) ≡ false → AreContent held ops doc → AreContent held (ops ++ op ∷ []) doc
holds_other held ops doc op other holds = record {
  orderly = orderly_push ops doc op holds.orderly (λ same. absurd (apart same));
  content = holds.content ∙ sym (content_of-other ops doc op other);
}
  where
    apart : op.doc ≡ doc → ⊥
    apart same = both_ways (op.doc == doc) other (eq-eqb op.doc doc same)

-- cells with one insert more
pub content_insert : (cells : List Cell) (ops : List Op) (doc : ℕ) (op : Op) (origin : Option Id) (value : ℕ) → Fits ops doc op
    → op.body ≡ Insert origin value → AreContent cells ops doc
    → AreContent (inserted origin (record { id = op.id; value = value; is_removed = false }) cells) (ops ++ op ∷ []) doc
content_insert cells ops doc op origin value fits same_body holds = record {
  orderly = orderly_push ops doc op holds.orderly (λ _. fits);
  content = rw holds.content (sym (content_of-insert ops doc op origin value holds.orderly fits same_body));
}

-- what a call that places a cell owes
pub takes_insert : (id : Id) (origin : Option Id) (value : ℕ) (old new : List Cell)
    → new ≡ inserted origin (record { id = id; value = value; is_removed = false }) old → TakesCell id (Insert origin value) old new
takes_insert id origin value old new placed ops doc op fits same_id same_body holds = record {
  orderly = orderly_push ops doc op holds.orderly (λ _. fits);
  content = rw (placed, holds.content, ← same_id) (sym (content_of-insert ops doc op origin value holds.orderly fits same_body));
}

-- what a call that removes a cell owes
pub takes_remove : (target : Id) (old new : List Cell) → new ≡ removed target old → (id : Id) → TakesCell id (Remove target) old new
takes_remove target old new is_removed id ops doc op fits same_id same_body holds = record {
  orderly = orderly_push ops doc op holds.orderly (λ _. fits);
  content = rw (is_removed, holds.content) (sym (content_of-remove ops doc op target holds.orderly fits same_body));
}

-- operations that fit one after another can be applied after those before them
pub orderly_after : (ops : List Op) (doc : ℕ) (more : List Op) → IsOrderly ops doc → FitAfter ops doc more → IsOrderly (ops ++ more) doc
orderly_after ops doc [] orderly fit = rw append-nil orderly
orderly_after ops doc (op ∷ more) orderly fit =
    rw (← append_assoc ops (op ∷ []) more)
    (orderly_after (ops ++ op ∷ []) doc more (orderly_push ops doc op orderly (λ _. fit.0)) fit.1)

-- characters removed from the content are the content with the removes
removes_placed : (ids : List Id) (ops : List Op) (doc : ℕ) (more : List Op) → IsOrderly ops doc → FitAfter ops doc more
    → AreRemoves ids more → removed_all ids (content_of ops doc) ≡ content_of (ops ++ more) doc
removes_placed [] ops doc [] orderly fit are = ap (λ all. content_of all doc) (sym (append-nil ops))
removes_placed [] ops doc (op ∷ more) orderly fit are = absurd are
removes_placed (id ∷ ids) ops doc [] orderly fit are = absurd are
removes_placed (id ∷ ids) ops doc (op ∷ more) orderly fit are =
    let one = content_of-remove ops doc op id orderly fit.0 are.0 in
    let later = removes_placed ids (ops ++ op ∷ []) doc more (orderly_push ops doc op orderly (λ _. fit.0)) fit.1 are.1 in
    ap (removed_all ids) (sym one) ∙ (later ∙ ap (λ all. content_of all doc) (append_assoc ops (op ∷ []) more))

-- what a call that removes cells owes
pub takes_removes : (ids : List Id) (old new : ChunkCells) → cells_of new ≡ removed_all ids (cells_of old) → TakesRemoves ids old new
takes_removes ids old new gone ops doc more fit are holds = record {
  orderly = orderly_after ops doc more holds.orderly fit;
  content = gone ∙ (ap (removed_all ids) holds.content ∙ removes_placed ids ops doc more holds.orderly fit are);
}
