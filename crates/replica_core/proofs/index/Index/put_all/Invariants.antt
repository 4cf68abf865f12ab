use Rattle.std.proofs.Common.{◌≡◌, ◌+◌, ◌≤◌, List, ◌++◌, length, take, drop}
use Rattle.op_model.specs.declared.op.Op.{Op}
use Rattle.op_model.specs.Records.{stream_length}
use Rattle.replica_core.specs.Indexes.{IsIndexOf}
use Rattle.replica_core.specs.Makers.{room_of}
use Rattle.replica_core.proofs.index.Index.put_all.Given as goal

-- those that were passed are counted
abbrev pub invariant-loop-op : goal.invariant-loop-op
invariant-loop-op l = record {
  index : (earlier : List Op) → IsIndexOf l.fn.self earlier → length earlier ≡ l.behind
      → IsIndexOf l.self (earlier ++ take l.op-index l.ops);
  room : length l.ops ≤ room_of l.self.makers.items l.fn.replica + l.op-index;
  stream : l.self.stream + stream_length (drop l.op-index l.ops) ≡ l.fn.self.stream + stream_length l.ops;
  next : l.next ≡ l.behind + l.op-index;
}
