-- Used by private functions and proofs alone.
--
-- Whether an operation goes on with the run of those before it.
use Rattle.std.specs.Prelude.{◌≡◌, ℕ, true, false, List, take, get_or, None}
use Rattle.op_model.specs.declared.op.Op.{Op}
use Rattle.op_pieces.specs.Cutting.{value_of}
use Rattle.run_list.specs.Runs.{goes_on, last_behind}

-- the operation at a place goes on with the run of the one before, and types this character
pub record GoesOnWith (ops : List Op) (i value : ℕ) : Type 0 where
  pub on : (d : Op) → goes_on (last_behind None (take i ops)) (get_or ops i d) ≡ true
  pub types : (d : Op) → value ≡ value_of (get_or ops i d).body

-- the operation at a place begins a run
abbrev pub BeginsRun : List Op → ℕ → Type 0
BeginsRun ops i = (d : Op) → goes_on (last_behind None (take i ops)) (get_or ops i d) ≡ false
