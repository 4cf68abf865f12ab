-- What is told next. Used by private functions and proofs alone.
use Rattle.std.specs.Prelude.{◌≡◌, ◌≤◌, ◌<◌, ℕ, Bool, true, false, List, length, slice_index_or}
use Rattle.op_model.specs.declared.op.Op.{Op}
use Rattle.op_model.specs.Causality.{is_known}

-- of the operations that are asked for, the least index, from one on, of one that a clock doesn't count, or else the length
pub record IsNextUntold (clock : List (ℕ × ℕ)) (asked : Op → Bool) (ops : List Op) (from next : ℕ) : Type 0 where
  pub within : next ≤ length ops
  pub known : (k : ℕ) (op : Op) → from ≤ k → k < next → op ≡ slice_index_or ops k op → asked op ≡ true
      → is_known clock op ≡ true
  pub behind : next < length ops → from ≤ next
  pub new : (op : Op) → next < length ops → op ≡ slice_index_or ops next op → is_known clock op ≡ false
