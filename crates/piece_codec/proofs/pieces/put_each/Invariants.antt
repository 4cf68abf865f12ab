use Rattle.std.proofs.Common.{◌≡◌, ◌≤◌, ◌++◌, length, take, drop}
use Rattle.piece_codec.specs.Fits.{AreWhole}
use Rattle.piece_codec.specs.Stream.{spelled_pieces}
use Rattle.piece_codec.proofs.pieces.put_each.Given as goal

-- what is put, and the records that are left, are all of it, behind what was there
abbrev pub invariant-loop-piece : goal.invariant-loop-piece
invariant-loop-piece l = record {
  all : l.out.items ++ spelled_pieces (drop l.piece-index l.pieces) ≡ l.fn.out.items ++ spelled_pieces l.pieces;
  front : take (length l.fn.out.items) l.out.items ≡ l.fn.out.items;
  fits : AreWhole (drop l.piece-index l.pieces) → AreWhole l.pieces;
  longer : length l.fn.out.items ≤ length l.out.items;
}
