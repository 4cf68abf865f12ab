-- Used by private functions and proofs alone.
--
-- Steps that are told from left to right.
use Rattle.std.specs.Prelude.{ℕ, Bool, true, false, if◌then◌else◌, [], ◌∷◌, Option, Some, None, zero, suc, List}
use Rattle.op_model.specs.declared.change_step.ChangeStep.{ChangeStep}
use Rattle.op_model.specs.declared.change_step.ChangeStep.TheVariants.{Keep, Drop, Put, Mark}
use Rattle.op_model.specs.declared.mark.Marks.{Marks}
use Rattle.model_laws.specs.Since.{with_last}

-- the step that brings one character
abbrev pub brought : ℕ → Marks → ChangeStep
brought value marks = Put (record { text = value ∷ []; marks = marks })

-- what became of a character: it was shown or not, it is shown or not, its marks are those that it had or not, its marks, its value
abbrev pub turned : Bool → Bool → Bool → Marks → ℕ → Option ChangeStep
turned true true same marks value = if same then Some (Keep 1) else Some (Mark 1 marks)
turned true false same marks value = Some (Drop 1)
turned false true same marks value = Some (brought value marks)
turned false false same marks value = None

-- so many more characters stay as they are
abbrev pub keeping : List ChangeStep → ℕ → List ChangeStep
keeping ss zero = ss
keeping ss (suc n) = with_last ss (Keep (suc n))
