-- Used by private functions and proofs alone.
--
-- What a call leaves of the operations of a replica, and of what is known of them.
use Rattle.std.specs.Prelude.{◌≡◌, ℕ, ◌+◌, ◌≤◌, ◌<◌, ◌^◌, List, ◌++◌, length}
use Rattle.fixed_numbers.specs.declared.limits.TheConstants.{MAX_OPERATIONS}
use Rattle.op_model.specs.declared.op.Op.{Op}
use Rattle.op_model.specs.Records.{stream_length}
use Rattle.op_model.specs.Spans.{with_number}
use Rattle.char_sequence.specs.Content.{FitAfter}
use Rattle.replica_core.specs.Docs.{numbers, AllStand, AreDocs}
use Rattle.replica_core.specs.Indexes.{IsIndexOf}
use Rattle.replica_core.specs.declared.log.Log.{Log}

-- these operations are few and short enough to come behind all others, whose length is known
pub record HasRoom (log : Log) (made : List Op) : Type 0 where
  pub few : length log.list + length made ≤ MAX_OPERATIONS
  pub stream : log.index.stream ≡ stream_length log.list
  pub small : stream_length log.list + stream_length made < 2 ^ 32

-- all is as before, but for room
pub record IsSame (old new : Log) : Type 0 where
  pub list : new.list ≡ old.list
  pub docs : new.docs.items ≡ old.docs.items
  pub index : (ops : List Op) → IsIndexOf old.index ops → IsIndexOf new.index ops
  pub stream : new.index.stream ≡ old.index.stream

-- these operations of a document came behind all others
pub record IsAppended (old new : Log) (made : List Op) (doc : ℕ) : Type 0 where
  pub list : new.list ≡ old.list ++ made
  pub numbers : numbers new.docs.items ≡ with_number doc (numbers old.docs.items)
  pub stand : AreDocs old.docs.items old.list → FitAfter old.list doc made
      → AllStand new.docs.items (old.list ++ made)
  pub index : IsIndexOf old.index old.list → IsIndexOf new.index new.list
