-- How many comment ids an answer lists.
use Rattle.std.specs.Prelude.{ℕ, ◌+◌, ◌<◌, List, [], ◌∷◌, length, Option, Some, None}
use Rattle.fixed_numbers.specs.declared.limits.TheConstants.{MAX_LISTED}
use Rattle.op_model.specs.declared.op.Op.{Op}
use Rattle.op_model.specs.declared.change_step.ChangeStep.{ChangeStep}
use Rattle.op_model.specs.declared.change_step.ChangeStep.TheVariants.{Keep, Drop, Put, Mark}
use Rattle.op_model.specs.declared.span.Span.{Span}
use Rattle.op_model.specs.Spans.{spans}
use Rattle.char_sequence.specs.Chunks.{ChunkCells}
use Rattle.char_sequence.specs.Content.{Holds}
use Rattle.mark_anchors.specs.Keeping.{Kept, AreMarksOf}

-- how many comment ids these spans list, one counted in each span that lists it
abbrev pub listed : List Span → ℕ
listed [] = 0
listed (s ∷ ss) = length s.marks.comments + listed ss

-- the spans of whichever document these characters and marks are would list more comment ids than an answer may
abbrev pub ListTooMany : ChunkCells → Kept → Type 0
ListTooMany characters marks = (ops : List Op) (doc : ℕ) → Holds characters ops doc → AreMarksOf marks ops doc
    → MAX_LISTED < listed (spans ops doc)

-- how many comment ids a step lists, and how many these steps list, one counted in each step that lists it
abbrev pub listed_step : ChangeStep → ℕ
listed_step (Keep n) = 0
listed_step (Drop n) = 0
listed_step (Put s) = length s.marks.comments
listed_step (Mark n marks) = length marks.comments

abbrev pub listed_steps : List ChangeStep → ℕ
listed_steps [] = 0
listed_steps (s ∷ ss) = listed_step s + listed_steps ss

-- how many one lists, if there is one
abbrev pub listed_any : Option ChangeStep → ℕ
listed_any None = 0
listed_any (Some s) = listed_step s
