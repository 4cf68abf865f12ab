use Rattle.std.proofs.Common.{◌≡◌, ◌+◌, ◌≤◌, ◌++◌, length, drop, vec_len, vec_capacity}
use Rattle.op_model.specs.Records.{stream_length}
use Rattle.op_list.specs.Held.{ends_of}
use Rattle.op_list.proofs.ends.push_ends.Given as goal

-- what is put, and the ends that are left, are all of them, behind what was there
abbrev pub invariant-loop-op : goal.invariant-loop-op
invariant-loop-op l =
    record {
      all : l.ends.items ++ ends_of l.end (drop l.op-index l.ops)
          ≡ l.fn.ends.items ++ ends_of l.start l.ops;
      sum : l.end + stream_length (drop l.op-index l.ops) ≡ l.start + stream_length l.ops;
      room : vec_len l.ends + length (drop l.op-index l.ops) ≤ vec_capacity l.ends;
    }
