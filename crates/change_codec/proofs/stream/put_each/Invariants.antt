use Rattle.std.proofs.Common.{◌≡◌, ◌≤◌, ◌++◌, length, take, drop}
use Rattle.change_codec.specs.Stream.{spelled_all, AreOperations}
use Rattle.change_codec.proofs.stream.put_each.Given as goal

-- what is put, and the records that are left, are all of it, behind what was there
abbrev pub invariant-loop-op : goal.invariant-loop-op
invariant-loop-op l =
    record {
      all : l.out.items ++ spelled_all (drop l.op-index l.ops) ≡ l.fn.out.items ++ spelled_all l.ops;
      front : take (length l.fn.out.items) l.out.items ≡ l.fn.out.items;
      fits : AreOperations (drop l.op-index l.ops) → AreOperations l.ops;
      longer : length l.fn.out.items ≤ length l.out.items;
    }
