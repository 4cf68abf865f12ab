use Rattle.std.proofs.Common.{◌≡◌, ◌-◌, ◌+◌, ◌≤◌, vec_len, vec_capacity}
use Rattle.change_codec.specs.Reading.{only_value, entries_at}
use Rattle.change_codec.proofs.Entries.{with_front}
use Rattle.change_codec.proofs.deps.collect_entries.Given as goal

-- the entries so far, and those that are left, are all of them
abbrev pub invariant-loop : goal.invariant-loop
invariant-loop l =
    record {
      all : with_front l.entries.items (entries_at (l.count - l.counter) l.left.low l.left.rest.now) ≡ only_value (entries_at l.count 0 l.bytes);
      room : vec_len l.entries + (l.count - l.counter) ≤ vec_capacity l.entries;
    }
