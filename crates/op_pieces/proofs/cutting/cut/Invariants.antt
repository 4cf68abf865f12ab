use Rattle.std.proofs.Common.{◌≡◌, ◌++◌, drop}
use Rattle.op_pieces.specs.Cutting.{cut, cut_behind}
use Rattle.op_pieces.specs.Pieces.{end_of}
use Rattle.op_pieces.proofs.cutting.cut.Given as goal

-- the pieces that are done, and what is cut from the open one on
abbrev pub invariant-loop-op : goal.invariant-loop-op
invariant-loop-op l = record {
  end : end_of l.open ≡ l.last;
  pieces : cut l.ops ≡ l.pieces.items ++ cut_behind l.open l.last (drop l.op-index l.rest);
}
