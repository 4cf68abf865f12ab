-- Used by private functions and proofs alone.
--
-- What is known of a list without a pass over it.
use Rattle.std.specs.Prelude.{◌≡◌, ℕ, List}
use Rattle.op_model.specs.declared.op.Op.{Op}
use Rattle.op_model.specs.Made.{greatest_counter}
use Rattle.op_model.specs.Records.{stream_length}
use Rattle.replica_core.specs.declared.index.Index.{Index}
use Rattle.replica_core.specs.Makers.{places_of, places_from}

-- an index is that of these operations
pub record IsIndexOf (index : Index) (ops : List Op) : Type 0 where
  -- by replica, the kept indexes are those of its operations
  pub places : (replica : ℕ) → places_of index.makers.items replica ≡ places_from 0 ops replica
  pub greatest : index.greatest ≡ greatest_counter ops
  pub stream : index.stream ≡ stream_length ops
