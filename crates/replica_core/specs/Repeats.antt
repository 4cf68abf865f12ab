-- Used by private functions and proofs alone.
--
-- Which operations of a list remove a character that was removed before.
use Rattle.std.specs.Prelude.{◌≡◌, ◌≤◌, ℕ, Bool, false, List, length, take, Option, Some, None, slice_get}
use Rattle.std.specs.BTreeSet.{contains}
use Rattle.std.specs.Ordering.{nat_cmp}
use Rattle.op_model.specs.declared.op.Op.{Op}
use Rattle.span_flatten.specs.Since.{removes_again}
use Rattle.replica_core.specs.declared.repeats.Repeats.{Repeats}

-- an operation, if there is one, removes a character that these before it removed
abbrev pub is_repeat : List Op → Option Op → Bool
is_repeat before None = false
is_repeat before (Some op) = removes_again before op.doc op.body

-- the operation at an index removes a character that was removed before
abbrev pub repeats_at : List Op → ℕ → Bool
repeats_at ops i = is_repeat (take i ops) (slice_get ops i)

-- an index is noted
abbrev pub has_noted : Repeats → ℕ → Bool
has_noted r i = contains nat_cmp r.at i

-- From an index of the list on, just those are noted whose operation removes a character that was removed before.
pub record AreRepeats (r : Repeats) (ops : List Op) : Type 0 where
  pub within : r.from ≤ length ops
  pub noted : (i : ℕ) → r.from ≤ i → has_noted r i ≡ repeats_at ops i
