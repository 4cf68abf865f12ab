-- What a gathering of mark operations holds, as contracts see it.
use Rattle.std.specs.Prelude.{◌≡◌, ℕ, List}
use Rattle.op_model.specs.declared.marking.Marking.{Marking}
use Rattle.op_model.specs.declared.op.Op.{Op}
use Rattle.op_model.specs.Marks.{markings}

-- mark operations in the order in which they came
abbrev pub Gathered : Type 0
Gathered = List Marking

-- gathered are the mark operations that a document has by these operations
pub record AreGathered (gathered : Gathered) (ops : List Op) (doc : ℕ) : Type 0 where
  pub all : gathered ≡ markings ops doc
