use Rattle.std.proofs.Common.{◌≡◌, ◌-◌, ◌+◌, ◌≤◌, vec_len, vec_capacity}
use Rattle.change_codec.specs.Reading.{only_value}
use Rattle.piece_codec.specs.Reading.{scalars_at}
use Rattle.piece_codec.proofs.Scalars.{with_front}
use Rattle.piece_codec.proofs.text.collect_scalars.Given as goal

-- the characters so far, and those that are left, are all of them
abbrev pub invariant-loop : goal.invariant-loop
invariant-loop l =
    record {
      all : with_front l.values.items (scalars_at (l.count - l.counter) l.rest) ≡ only_value (scalars_at l.count l.bytes);
      room : vec_len l.values + (l.count - l.counter) ≤ vec_capacity l.values;
    }
