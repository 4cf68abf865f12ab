-- Used by private functions and proofs alone.
--
-- A document that is drafted anew, up to so many of its operations.
use Rattle.std.specs.Prelude.{◌≡◌, ℕ, ◌+◌, ◌≤◌, List, length, take}
use Rattle.op_model.specs.declared.op.Op.{Op}
use Rattle.op_model.specs.Text.{rev}
use Rattle.doc_core.specs.declared.draft.Draft.{Draft}
use Rattle.doc_core.specs.Drafting.{IsDraftOf}
use Rattle.replica_core.specs.Docs.{draft_number}

-- The draft has the document's operations among the first so many of the list: those that are wanted but for those that are left.
pub record IsDrafted (d : Draft) (list : List Op) (doc count left next : ℕ) : Type 0 where
  pub within : next ≤ length list
  pub number : draft_number d ≡ doc
  pub draft : IsDraftOf d (take next list)
  pub counted : rev (take next list) doc + left ≡ count
