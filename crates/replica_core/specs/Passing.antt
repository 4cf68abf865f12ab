-- Used by private functions and proofs alone.
--
-- What is known of a list while it is opened.
use Rattle.std.specs.Prelude.{◌≡◌, ℕ, List}
use Rattle.op_model.specs.declared.op.Op.{Op}
use Rattle.op_model.specs.Causality.{documents}
use Rattle.op_model.specs.Spans.{with_number}
use Rattle.edit_tokens.specs.Places.{AreTokens}
use Rattle.replica_core.specs.Deciding.{AreCounted}
use Rattle.replica_core.specs.Docs.{AreDrafts, IsNumberAt}
use Rattle.replica_core.specs.declared.opening.Passed.{Passed}

-- these operations were passed: a causally closed list, of which clock, index, drafts and a replica's tokens are known
pub record ArePassed (it : Passed) (replica : ℕ) (ops : List Op) : Type 0 where
  pub counted : AreCounted ops it.clock it.index
  pub numbers : it.numbers.items ≡ documents ops
  pub drafts : AreDrafts it.drafts.items it.numbers.items ops
  pub tokens : AreTokens it.tokens replica ops

-- of these operations clock, index and drafts are known, and at this index is the draft of the next one's document
pub record IsOpenFor (it : Passed) (doc at : ℕ) (ops : List Op) : Type 0 where
  pub counted : AreCounted ops it.clock it.index
  pub numbers : it.numbers.items ≡ with_number doc (documents ops)
  pub drafts : AreDrafts it.drafts.items it.numbers.items ops
  pub place : IsNumberAt it.numbers.items at doc
