use Rattle.std.proofs.Common.{◌≡◌, ◌-◌, ◌+◌, ◌≤◌, vec_len, vec_capacity}
use Rattle.causal_sync.specs.Reading.{records_at}
use Rattle.causal_sync.proofs.Records.{with_front}
use Rattle.causal_sync.proofs.take_content.take_each.Given as goal

-- the pieces so far, and those that are left, are all of them
abbrev pub invariant-loop : goal.invariant-loop
invariant-loop l =
    record {
      all : with_front l.pieces.items (records_at (l.count - l.counter) l.rest) ≡ records_at l.count l.records;
      room : vec_len l.pieces + (l.count - l.counter) ≤ vec_capacity l.pieces;
    }
