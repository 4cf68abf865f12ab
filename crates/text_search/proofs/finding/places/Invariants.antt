use Rattle.std.proofs.Common.{◌≡◌, ◌≤◌, ◌<◌, ◌+◌, ◌-◌, ◌*◌, ◌++◌, ℕ, List, Some, length, map, drop, take}
use Rattle.text_search.specs.declared.finding.TheConstants.{MAX_FOUND}
use Rattle.text_search.specs.Ends.{IsLongest}
use Rattle.text_search.specs.Places.{stands_after}
use Rattle.text_search.proofs.PlaceLemmas.{undecided}
use Rattle.text_search.proofs.finding.places.Given as goal

-- how much of the sought text was just read; those found and those that aren't decided yet are all; at most two steps for each character
abbrev pub invariant-loop-i : goal.invariant-loop-i
invariant-loop-i l =
    (l.from ≤ l.i)
    × (l.i - l.from ≤ length l.text)
    × IsLongest l.sought (take (l.i - l.from) (drop l.from l.text)) l.count
    × ((found : List ℕ) × (l.found.items ≡ map (λ at. Some at) found) × (length found < MAX_FOUND)
    × (found ++ undecided l.sought (drop l.from l.text) l.from (l.i - l.from) ≡ stands_after l.from l.sought (drop l.from l.text)))
    × (l.ticks + l.count ≤ l.fn.ticks + 2 * length l.sought + 2 * (l.i - l.from))
