-- How many device calls a commit has left.
use Rattle.std.specs.Prelude.{ℕ, ◌+◌, ◌-◌, length}
use Rattle.group_commit.specs.Held.{StoreHeld}
use Rattle.group_commit.specs.declared.phase.Phase.{Phase}
use Rattle.group_commit.specs.declared.phase.Phase.TheVariants.{Idle, Pages, Close, Sync1, Body, Sync2, Gate, Sync3}

-- the most calls that are left from a phase on, where pages is the number of the commit's new pages
abbrev pub calls_from : ℕ → Phase → ℕ
calls_from pages Idle = 0
calls_from pages (Pages k) = (pages - k) + 7
calls_from pages Close = 6
calls_from pages Sync1 = 5
calls_from pages Body = 4
calls_from pages Sync2 = 3
calls_from pages Gate = 2
calls_from pages Sync3 = 1

abbrev pub calls_left : {D : Type 0} → StoreHeld D → ℕ
calls_left store = calls_from (length store.numbers) store.phase
