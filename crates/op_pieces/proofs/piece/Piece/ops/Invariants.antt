use Rattle.std.proofs.Common.{◌≡◌, ◌∷◌, ◌++◌, true, drop}
use Rattle.op_pieces.specs.Pieces.{fits_behind, ops_of, typed_behind}
use Rattle.op_pieces.proofs.piece.Piece.ops.Given as goal

-- the operations that are done, the last one that was made, and those that are typed behind it
abbrev pub invariant-loop-value : goal.invariant-loop-value
invariant-loop-value l = record {
  all : ops_of l.self ≡ l.ops.items ++ l.last ∷ typed_behind l.last (drop l.value-index l.others);
  room : fits_behind l.last (drop l.value-index l.others) ≡ true;
}
