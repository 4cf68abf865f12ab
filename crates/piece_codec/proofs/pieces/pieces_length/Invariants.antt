use Rattle.std.proofs.Common.{◌≡◌, ◌+◌, ◌≤◌, length, min, drop}
use Rattle.piece_codec.specs.Stream.{spelled_pieces}
use Rattle.piece_codec.proofs.pieces.pieces_length.Given as goal

-- what was counted, and what is left, is all of it
abbrev pub invariant-loop-piece : goal.invariant-loop-piece
invariant-loop-piece l = record {
  all : min (l.total + length (spelled_pieces (drop l.piece-index l.pieces))) 18446744073709551615 ≡ min (length (spelled_pieces l.pieces)) 18446744073709551615;
  fits : l.total ≤ 18446744073709551615;
}
