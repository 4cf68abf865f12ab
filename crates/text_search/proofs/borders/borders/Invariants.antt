use Rattle.std.proofs.Common.{◌≡◌, ◌≤◌, ◌+◌, ◌*◌, length, drop, take}
use Rattle.text_search.specs.Ends.{AreBorders, IsLongest}
use Rattle.text_search.proofs.borders.borders.Given as goal

-- the borders so far, and the last one of them; at most two steps for each
abbrev pub invariant-loop-i : goal.invariant-loop-i
invariant-loop-i l =
    AreBorders l.sought l.found.items
    × (length l.found.items ≡ l.i)
    × IsLongest l.sought (drop 1 (take l.i l.sought)) l.count
    × (l.ticks + l.count ≤ l.fn.ticks + 2 * l.i)
