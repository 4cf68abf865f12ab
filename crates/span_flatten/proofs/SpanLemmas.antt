-- The runs of a document's cells are its spans.
use Rattle.std.proofs.Common.{◌≡◌, ℕ, ◌+◌, ◌*◌, inl, inr, List, [], ◌∷◌, map, refl, ◌∙◌, ap}
use Rattle.std.proofs.lemmas.Bool.{cases_Bool}
use Rattle.op_model.specs.declared.op.Op.{Op}
use Rattle.op_model.specs.declared.character.Character.{Character}
use Rattle.op_model.specs.declared.mark.Marks.{Marks}
use Rattle.op_model.specs.declared.marking.Marking.{Marking}
use Rattle.op_model.specs.Marks.{markings}
use Rattle.op_model.specs.Spans.{marks_of, runs, spans, with_front}
use Rattle.op_model.specs.Text.{is_removed}
use Rattle.op_model.specs.Walk.{walk}
use Rattle.char_sequence.specs.declared.cell.Cell.{Cell}
use Rattle.char_sequence.specs.Content.{cell_of, content_of}
use Rattle.mark_anchors.specs.Force.{is_in_force}
use Rattle.span_flatten.specs.Covering.{covering, covers_cell}
use Rattle.span_flatten.specs.Formatting.{marks_in}
use Rattle.span_flatten.specs.Runs.{cell_runs, cell_spans, marks_at}
use Rattle.span_flatten.proofs.CoverLemmas.{covers_same}
use Rattle.span_flatten.proofs.FormatLemmas.{marks_same}

-- the runs of cells are those of their characters, where the marks are the same
runs_same : (ops : List Op) (doc : ℕ) (of cells_of : ℕ → Marks) → ((k : ℕ) → cells_of k ≡ of k) → (k : ℕ) (cs : List Character)
    → cell_runs cells_of k (map (cell_of ops doc) cs) ≡ runs (is_removed ops doc) of k cs
runs_same ops doc of cells_of same k [] = refl
runs_same ops doc of cells_of same k (c ∷ cs) =
    let rest = runs_same ops doc of cells_of same (k + 1) cs in
    elim (cases_Bool (is_removed ops doc c)) [
      | inl e ↦ rw e rest
      | inr e ↦ rw e (ap (λ marks. with_front c.value marks (cell_runs cells_of (k + 1) (map (cell_of ops doc) cs))) (same k)
          ∙ ap (λ ss. with_front c.value (of k) ss) rest)
    ]

-- the spans of a document's cells and mark operations are the document's
pub spans_same : (ops : List Op) (doc : ℕ) (cells : List Cell) (ms : List Marking) → cells ≡ content_of ops doc → ms ≡ markings ops doc
    → cell_spans cells ms ≡ spans ops doc
spans_same ops doc cells ms content marks =
    rw (content, marks) (runs_same ops doc (marks_of (walk ops doc) (markings ops doc))
    (λ k. marks_in (covering (content_of ops doc) (markings ops doc) k))
    (λ k. marks_same (walk ops doc) (markings ops doc) k (λ m. covers_cell (content_of ops doc) k m)
    (λ m. covers_same ops doc (walk ops doc) k m))
    0 (walk ops doc))

-- and so are those where each character's marks are looked for by its place
pub spans_by_place : (ops : List Op) (doc : ℕ) (cells : List Cell) → cells ≡ content_of ops doc → cell_runs (marks_at ops doc) 0 cells ≡ spans ops doc
spans_by_place ops doc cells content =
    rw content (runs_same ops doc (marks_of (walk ops doc) (markings ops doc)) (marks_at ops doc)
    (λ k. marks_same (walk ops doc) (markings ops doc) k (λ m. is_in_force (walk ops doc) (2 * k + 1) m) (λ m. refl))
    0 (walk ops doc))
