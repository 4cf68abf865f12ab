-- What the operations of an edit name, and one operation as an edit.
use Rattle.std.proofs.Common.{◌≡◌, ℕ, ◌<◌, Bool, ◌&&◌, true, false, List, [], ◌∷◌, length, get_or, Option, Some, None, refl, sym, ◌∙◌, ap, append-nil, arith}
use Rattle.std.specs.Prelude.{not, filter}
use Rattle.std.specs.List.{list_any}
use Rattle.std.proofs.lemmas.Bool.{or_left}
use Rattle.op_ids.specs.Id.{Id, is_same}
use Rattle.op_model.specs.declared.op.Op.{Op}
use Rattle.op_model.specs.Causality.{named_by, optional}
use Rattle.op_model.specs.Characters.{characters}
use Rattle.op_model.specs.Placing.{has_id}
use Rattle.model_laws.proofs.Ids.{same_itself}
use Rattle.char_sequence.specs.Content.{AreRemoves, IsRun, is_there}
use Rattle.char_sequence.specs.Chunks.{ChunkCells}
use Rattle.mark_anchors.specs.Keeping.{Kept}
use Rattle.doc_core.specs.Standing.{are_removes, are_there, is_remove, named_outside}
use Rattle.doc_core.specs.Taking.{TakesIn, TakesAllIn}

-- whatever is named, nothing of one's own is left out where there is none
kept_all : (ids : List Id) → filter (λ id. not (list_any (λ o. is_same o id) [])) ids ≡ ids
kept_all [] = refl
kept_all (id ∷ ids) = ap (λ rest. id ∷ rest) (kept_all ids)

-- behind a character of its own a run names nothing outside
run_names_own : (origin : Id) (own : List Id) (run : List (Id × ℕ)) (ops : List Op) → list_any (λ o. is_same o origin) own ≡ true
    → IsRun (Some origin) run ops → named_outside own ops ≡ []
run_names_own origin own [] [] has is_run = refl
run_names_own origin own [] (op ∷ ops) has is_run = absurd is_run
run_names_own origin own (x ∷ xs) [] has is_run = absurd is_run
run_names_own origin own (x ∷ xs) (op ∷ ops) has is_run =
    rw (is_run.1, has) (run_names_own op.id (op.id ∷ own) xs ops (or_left (is_same op.id op.id) (list_any (λ o. is_same o op.id) own) (same_itself op.id))
    (rw is_run.0 is_run.2))

-- a run names its origin
pub run_names : (origin : Option Id) (run : List (Id × ℕ)) (ops : List Op) → 0 < length ops → IsRun origin run ops
    → named_outside [] ops ≡ optional origin
run_names origin run [] some is_run = absurd (omega arith)
run_names origin [] (op ∷ ops) some is_run = absurd is_run
run_names origin (x ∷ xs) (op ∷ ops) some is_run =
    rw (
      is_run.1,
      kept_all (optional origin),
      run_names_own op.id (op.id ∷ []) xs ops (or_left (is_same op.id op.id) false (same_itself op.id)) (rw is_run.0 is_run.2),
    ) (append-nil (optional origin))

-- removes name their characters
pub removes_name : (ids : List Id) (ops : List Op) → AreRemoves ids ops → named_outside [] ops ≡ ids
removes_name [] [] are = refl
removes_name [] (op ∷ ops) are = absurd are
removes_name (id ∷ ids) [] are = absurd are
removes_name (id ∷ ids) (op ∷ ops) are = rw are.0 (ap (λ rest. id ∷ rest) (removes_name ids ops are.1))

-- one operation names what it names
pub one_names : (ops : List Op) (op : Op) → length ops ≡ 1 → op ≡ get_or ops 0 op → named_outside [] ops ≡ named_by op.body
one_names [] op one is_it = absurd (omega arith)
one_names (x ∷ []) op one is_it = let same : op ≡ x = is_it in rw (kept_all (named_by x.body), same) (append-nil (named_by x.body))
one_names (x ∷ y ∷ ops) op one is_it = absurd (omega arith)

-- what an origin names is there where the origin is
pub origin_there : (ops : List Op) (doc : ℕ) (origin : Option Id) → are_there ops doc (optional origin) ≡ is_there ops doc origin
origin_there ops doc None = refl
origin_there ops doc (Some id) = alone (has_id (characters ops doc) id)
  where
    alone : (b : Bool) → (b && true) ≡ b
    alone true = refl
    alone false = refl

-- one operation taken is an edit of it taken
pub one_taken : (ops : List Op) (op : Op) (old new : ChunkCells) (marks kept : Kept) → length ops ≡ 1 → op ≡ get_or ops 0 op
    → TakesIn op old new marks kept → TakesAllIn ops old new marks kept
one_taken [] op old new marks kept one is_it takes = absurd (omega arith)
one_taken (x ∷ []) op old new marks kept one is_it takes = λ before doc holds are fit.
    let same : op ≡ x = is_it in
    rw same at (takes before doc holds are (rw same fit.0))
one_taken (x ∷ y ∷ ops) op old new marks kept one is_it takes = absurd (omega arith)

-- a run of inserts removes nothing
pub run_adds : (origin : Option Id) (run : List (Id × ℕ)) (ops : List Op) → 0 < length ops → IsRun origin run ops → are_removes ops ≡ false
run_adds origin [] [] some is_run = absurd (omega arith)
run_adds origin [] (op ∷ ops) some is_run = absurd is_run
run_adds origin (x ∷ xs) [] some is_run = absurd is_run
run_adds origin (x ∷ xs) (op ∷ ops) some is_run = ap (λ b. is_remove b && are_removes ops) is_run.1

-- one operation that removes nothing
pub one_adds : (ops : List Op) (op : Op) → length ops ≡ 1 → op ≡ get_or ops 0 op → is_remove op.body ≡ false → are_removes ops ≡ false
one_adds [] op one is_it adds = absurd (omega arith)
one_adds (x ∷ []) op one is_it adds = let same : op ≡ x = is_it in ap (λ o. is_remove o.body && true) (sym same) ∙ ap (λ r. r && true) adds
one_adds (x ∷ y ∷ ops) op one is_it adds = absurd (omega arith)
