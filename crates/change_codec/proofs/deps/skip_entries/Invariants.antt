use Rattle.std.proofs.Common.{◌≡◌, ◌-◌}
use Rattle.change_codec.specs.Reading.{only_rest, entries_at}
use Rattle.change_codec.proofs.deps.skip_entries.Given as goal

-- the entries that are left end where all of them do
abbrev pub invariant-loop : goal.invariant-loop
invariant-loop l = only_rest (entries_at (l.count - l.counter) l.left.low l.left.rest.now) ≡ only_rest (entries_at l.count 0 l.bytes)
