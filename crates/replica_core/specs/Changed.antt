-- What changed in a document of a replica.
use Rattle.std.specs.Prelude.{◌≡◌, ◌≤◌, ℕ, List, ◌++◌, take, Option, IfSome, IsSome}
use Rattle.std.specs.Global.{Vec}
use Rattle.op_model.specs.declared.op.Op.{Op}
use Rattle.op_model.specs.declared.change_step.ChangeStep.{ChangeStep}
use Rattle.op_model.specs.Changes.{changes}
use Rattle.op_model.specs.Text.{rev}

-- The document had so many operations, and the steps are what changed since: for every beginning of the list with so many of them.
pub record AreChangesSince (list : List Op) (doc since : ℕ) (steps : List ChangeStep) : Type 0 where
  pub within : since ≤ rev list doc
  pub are : (before more : List Op) → list ≡ before ++ more → rev before doc ≡ since → steps ≡ changes before list doc

-- What is told: just what changed. Since none is always told, and so is since any number that the document has had from the opening on.
pub record TellsChanges (list : List Op) (opened doc since : ℕ) (found : Option (Vec ChangeStep)) : Type 0 where
  pub changes : IfSome found (λ steps. AreChangesSince list doc since steps.items)
  pub first : since ≡ 0 → IsSome found
  pub later : rev (take opened list) doc ≤ since → since ≤ rev list doc → IsSome found
