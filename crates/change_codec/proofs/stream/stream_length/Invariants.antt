use Rattle.std.proofs.Common.{◌≡◌, ◌+◌, ◌≤◌, min, drop}
use Rattle.op_model.specs.Records.{stream_length}
use Rattle.change_codec.proofs.stream.stream_length.Given as goal

-- what was counted, and what is left, is all of it
abbrev pub invariant-loop-op : goal.invariant-loop-op
invariant-loop-op l =
    record {
      all : min (l.total + stream_length (drop l.op-index l.ops)) 18446744073709551615 ≡ min (stream_length l.ops) 18446744073709551615;
      fits : l.total ≤ 18446744073709551615;
    }
