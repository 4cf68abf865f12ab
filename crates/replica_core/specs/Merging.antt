-- What a merge answers and leaves.
use Rattle.std.specs.Prelude.{ℕ, ◌+◌, ◌≤◌, length}
use Rattle.fixed_numbers.specs.declared.limits.TheConstants.{MAX_STEPS}
use Rattle.op_model.specs.declared.op.Op.{Op}
use Rattle.op_model.specs.Machine.{Answer, applied, known, early}
use Rattle.op_model.specs.Replay.{Joins}
use Rattle.replica_core.specs.declared.merged.Merged.{Merged}
use Rattle.replica_core.specs.declared.merged.Merged.TheVariants as merged_as
use Rattle.op_model.specs.Held.{ReplicaHeld, with_merge}

-- the machine's answer
abbrev pub answer_of : Merged → Answer
answer_of merged_as.Applied = applied
answer_of merged_as.Known = known
answer_of merged_as.Early = early

-- what a replica holds behind a merge: all as before, but with the operation where it is applied
abbrev pub after_merge : Merged → ReplicaHeld → ℕ → Op → ReplicaHeld
after_merge merged_as.Applied h peer op = with_merge h peer op
after_merge merged_as.Known h peer op = h
after_merge merged_as.Early h peer op = h

-- nothing refuses a peer's operation, and there are places for its step and for two settlements
pub record CanMerge (h : ReplicaHeld) (op : Op) : Type 0 where
  pub joins : Joins h.replica h.list op
  pub places : length h.steps + 3 ≤ MAX_STEPS
