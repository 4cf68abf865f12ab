use Rattle.std.proofs.Common.{◌≡◌, ◌≤◌, ◌<◌, ◌+◌, List, ℕ, false}
use Rattle.text_search.specs.Ends.{fits, EndsWith, IsLongest}
use Rattle.text_search.proofs.next.next.Given as goal

-- what was read ends with so many of them, and whatever more it ends with, the character doesn't fit there; each step took one away
abbrev pub invariant-loop-k : goal.invariant-loop-k
invariant-loop-k l =
    (l.k ≤ l.fn.count)
    × (l.ticks + l.k ≤ l.fn.ticks + l.fn.count + 1)
    × ((read : List ℕ) → IsLongest l.sought read l.fn.count
    → EndsWith l.sought read l.k
    × ((more : ℕ) → EndsWith l.sought read more → l.k < more → fits l.sought more l.character ≡ false))

abbrev pub decreases-loop-k : goal.decreases-loop-k
decreases-loop-k l = l.k
