-- The operations of an action.
use Rattle.std.specs.Prelude.{◌≡◌, ℕ, List, ◌++◌}
use Rattle.doc_core.specs.declared.doc.Doc.{Doc}
use Rattle.doc_core.specs.Standing.{StandsFor}
use Rattle.op_model.specs.declared.op.Op.{Op}
use Rattle.replica_core.specs.declared.edited.Edited.{Edited}
use Rattle.replica_core.specs.declared.edited.Edited.TheVariants.{One, Several}
use Rattle.replica_core.specs.Docs.{doc_number}

-- in order
abbrev pub ops_of : Edited → List Op
ops_of (One made) = made
ops_of (Several ops copy) = ops.items

-- a copy of this document, which has these operations
pub record IsCopy (copy : Doc) (ops : List Op) (doc : ℕ) : Type 0 where
  pub number : doc_number copy ≡ doc
  pub stands : StandsFor copy ops

-- a copy is of this document, and has what is made after this list
abbrev pub IsCopyOf : Edited → List Op → ℕ → Type 0
IsCopyOf (One made) list doc = Unit {0}
IsCopyOf (Several ops copy) list doc = IsCopy copy (list ++ ops.items) doc
