use Rattle.std.proofs.Common.{◌≡◌, ◌≤◌, ◌*◌, ◌++◌, length, drop}
use Rattle.piece_codec.specs.Stream.{spelled_pieces}
use Rattle.causal_sync.proofs.put_frame.spelled_records.Given as goal

-- the records so far, and those that are left, are all of them
abbrev pub invariant-loop-piece : goal.invariant-loop-piece
invariant-loop-piece l =
    record {
      all : l.records.items ++ spelled_pieces (drop l.piece-index l.pieces) ≡ spelled_pieces l.pieces;
      within : length l.records.items ≤ 1511 * l.piece-index;
    }
