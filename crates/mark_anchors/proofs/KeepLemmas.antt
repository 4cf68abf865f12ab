-- What one more operation, or several, make of the mark operations that are kept of a document.
use Rattle.std.proofs.Common.{◌≡◌, ℕ, inl, inr, None, List, [], ◌∷◌, ◌++◌, Option, Some, refl, sym, ◌∙◌, ap, append-nil}
use Rattle.std.specs.Prelude.{◌==◌, ◌≢◌}
use Rattle.std.proofs.lemmas.Bool.{cases_Bool, ne_eqb}
use Rattle.op_ids.specs.Id.{Id}
use Rattle.op_model.specs.declared.op.Op.{Op}
use Rattle.op_model.specs.declared.op.Body.TheVariants.{Insert, Remove}
use Rattle.op_model.specs.declared.marking.Marking.{Marking}
use Rattle.op_model.specs.Marks.{markings, marking_of}
use Rattle.op_model.specs.Placing.{Fits}
use Rattle.model_laws.proofs.Growth.{markings-append}
use Rattle.char_sequence.specs.Content.{AreRemoves, IsRun}
use Rattle.mark_anchors.specs.Gathered.{AreGathered, Gathered}
use Rattle.mark_anchors.specs.Keeping.{AreMarksOf, Kept}

-- an operation of the document comes behind the others
pub kept_more : (old new : List Marking) (ops : List Op) (doc : ℕ) (op : Op) → new ≡ old ++ markings (op ∷ []) op.doc → old ≡ markings ops doc
    → Fits ops doc op → new ≡ markings (ops ++ op ∷ []) doc
kept_more old new ops doc op more are fits =
    more
    ∙ (ap (λ kept. kept ++ markings (op ∷ []) op.doc) are
    ∙ (ap (λ n. markings ops doc ++ markings (op ∷ []) n) fits.same ∙ sym (markings-append ops (op ∷ []) doc)))

-- operations that make no mark operation of the document leave its others as they are
markings_with : (ms : List Marking) (ops more : List Op) (doc : ℕ) → markings more doc ≡ [] → ms ≡ markings ops doc → ms ≡ markings (ops ++ more) doc
markings_with ms ops more doc none are =
    are ∙ (sym (append-nil (markings ops doc)) ∙ (ap (λ ms. markings ops doc ++ ms) (sym none) ∙ sym (markings-append ops more doc)))

-- so they leave those that are kept
pub kept_with : (kept : Kept) (ops more : List Op) (doc : ℕ) → markings more doc ≡ [] → AreMarksOf kept ops doc → AreMarksOf kept (ops ++ more) doc
kept_with kept ops more doc none are = record { all = markings_with kept.markings ops more doc none are.all }

-- and those that are gathered
pub gathered_with : (gathered : Gathered) (ops more : List Op) (doc : ℕ) → markings more doc ≡ [] → AreGathered gathered ops doc
    → AreGathered gathered (ops ++ more) doc
gathered_with gathered ops more doc none are = record { all = markings_with gathered ops more doc none are.all }

-- a body makes no mark operation, and so neither does an operation with it, in front of others that make none
marks_none : (op : Op) (ops : List Op) (doc : ℕ) → marking_of op.id op.body ≡ None → markings ops doc ≡ [] → markings (op ∷ ops) doc ≡ []
marks_none op ops doc none rest =
    elim (cases_Bool (op.doc == doc)) [
      | inl own ↦ rw (own, none) rest
      | inr other ↦ rw other rest
    ]

pub insert_marks_none : (op : Op) (doc : ℕ) (origin : Option Id) (value : ℕ) → op.body ≡ Insert origin value → markings (op ∷ []) doc ≡ []
insert_marks_none op doc origin value is = marks_none op [] doc (rw is refl) refl

pub remove_marks_none : (op : Op) (doc : ℕ) (target : Id) → op.body ≡ Remove target → markings (op ∷ []) doc ≡ []
remove_marks_none op doc target is = marks_none op [] doc (rw is refl) refl

pub run_marks_none : (origin : Option Id) (run : List (Id × ℕ)) (ops : List Op) (doc : ℕ) → IsRun origin run ops → markings ops doc ≡ []
run_marks_none origin [] [] doc is_run = refl
run_marks_none origin [] (op ∷ ops) doc is_run = absurd is_run
run_marks_none origin (x ∷ xs) [] doc is_run = absurd is_run
run_marks_none origin (x ∷ xs) (op ∷ ops) doc is_run = marks_none op ops doc (rw is_run.1 refl) (run_marks_none (Some x.0) xs ops doc is_run.2)

pub removes_mark_none : (ids : List Id) (ops : List Op) (doc : ℕ) → AreRemoves ids ops → markings ops doc ≡ []
removes_mark_none [] [] doc are = refl
removes_mark_none [] (op ∷ ops) doc are = absurd are
removes_mark_none (id ∷ ids) [] doc are = absurd are
removes_mark_none (id ∷ ids) (op ∷ ops) doc are = marks_none op ops doc (rw are.0 refl) (removes_mark_none ids ops doc are.1)

pub other_marks_none : (op : Op) (doc : ℕ) → op.doc ≢ doc → markings (op ∷ []) doc ≡ []
other_marks_none op doc other = rw (ne_eqb op.doc doc other) refl
