-- Used by private functions and proofs alone.
--
-- What came with the last operations of a document.
use Rattle.std.specs.Prelude.{◌≡◌, ℕ, ◌+◌, List, ◌++◌}
use Rattle.op_model.specs.declared.op.Op.{Op}
use Rattle.op_model.specs.Text.{rev}
use Rattle.span_flatten.specs.declared.since.Since.{Since}
use Rattle.span_flatten.specs.Since.{IsSince}

-- Noted is what came with the last so many operations of the document.
pub record IsCame (s : Since) (ops : List Op) (doc count : ℕ) : Type 0 where
  pub before : List Op
  pub more : List Op
  pub all : ops ≡ before ++ more
  pub counted : rev before doc + count ≡ rev ops doc
  pub since : IsSince s before more doc
