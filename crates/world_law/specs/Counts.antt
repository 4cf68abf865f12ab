-- The place of an operation among those of its replica.
use Rattle.std.specs.Prelude.{ℕ}
use Rattle.op_ids.specs.Clock.{count_of}
use Rattle.op_model.specs.declared.op.Op.{Op}

-- how many operations of its own replica an operation depends on
abbrev pub own_count : Op → ℕ
own_count op = count_of op.deps op.id.replica
