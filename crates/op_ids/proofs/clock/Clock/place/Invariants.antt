use Rattle.std.proofs.Common.{◌≡◌, ◌+◌, drop}
use Rattle.op_ids.specs.Clock.{place_of}
use Rattle.op_ids.proofs.clock.Clock.place.Given as goal

-- all entries up to here are below
abbrev pub invariant-loop-index : goal.invariant-loop-index
invariant-loop-index l = place_of l.self l.replica ≡ l.index + place_of (drop l.index l.entry-items) l.replica
