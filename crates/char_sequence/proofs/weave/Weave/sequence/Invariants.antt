use Rattle.std.proofs.Common.{◌≡◌, ◌-◌, ◌++◌, length}
use Rattle.char_sequence.specs.Links.{followed}
use Rattle.char_sequence.specs.Weave.{woven}
use Rattle.char_sequence.proofs.weave.Weave.sequence.Given as goal

-- those that were passed, and then those that the other links lead to, are all
abbrev pub invariant-loop : goal.invariant-loop
invariant-loop l =
    l.building ++ followed l.self-inside.cells l.self-inside.next.items l.at (length l.self-inside.cells - l.counter)
    ≡ woven l.self-inside.cells l.self-inside.next.items
