-- Used by private functions and proofs alone: what a call makes of the characters and the marks of a document.
use Rattle.std.specs.Prelude.{ℕ, List, [], ◌∷◌, ◌++◌}
use Rattle.op_model.specs.declared.op.Op.{Op}
use Rattle.op_model.specs.Placing.{Fits}
use Rattle.char_sequence.specs.Chunks.{ChunkCells}
use Rattle.char_sequence.specs.Content.{Holds, FitAfter}
use Rattle.char_sequence.specs.Woven.{Woven, IsWovenOf}
use Rattle.mark_anchors.specs.Gathered.{Gathered, AreGathered}
use Rattle.mark_anchors.specs.Keeping.{Kept, AreMarksOf}

-- characters and marks are those of any operations that this one fits, and then of these and it
abbrev pub TakesIn : Op → ChunkCells → ChunkCells → Kept → Kept → Type 0
TakesIn op old new marks kept = (ops : List Op) (doc : ℕ) → Holds old ops doc → AreMarksOf marks ops doc → Fits ops doc op
    → Holds new (ops ++ op ∷ []) doc × AreMarksOf kept (ops ++ op ∷ []) doc

-- the same of operations that fit one after another
abbrev pub TakesAllIn : List Op → ChunkCells → ChunkCells → Kept → Kept → Type 0
TakesAllIn edit old new marks kept = (ops : List Op) (doc : ℕ) → Holds old ops doc → AreMarksOf marks ops doc
    → FitAfter ops doc edit → Holds new (ops ++ edit) doc × AreMarksOf kept (ops ++ edit) doc

-- a draft's characters and marks are those of any operations that this one fits, and then of these and it
abbrev pub TakesWoven : Op → Woven → Woven → Gathered → Gathered → Type 0
TakesWoven op old new marks kept = (ops : List Op) (doc : ℕ) → IsWovenOf old ops doc → AreGathered marks ops doc → Fits ops doc op
    → IsWovenOf new (ops ++ op ∷ []) doc × AreGathered kept (ops ++ op ∷ []) doc
