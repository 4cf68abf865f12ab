use Rattle.std.proofs.Common.{◌≡◌, ◌+◌, drop}
use Rattle.op_model.specs.Records.{stream_length}
use Rattle.slow_programs.proofs.limits.room_behind.Given as goal

abbrev pub invariant-loop-op : goal.invariant-loop-op
invariant-loop-op l = l.left + stream_length l.ops ≡ l.room + stream_length (drop l.op-index l.ops)
