-- How many writes and syncs a commit still makes.
use Rattle.std.specs.Prelude.{◌≡◌, ◌<◌, ℕ, ◌+◌, ◌-◌, Bool, length, if◌then◌else◌}
use Rattle.group_commit.specs.Held.{StoreHeld}
use Rattle.group_commit.specs.declared.phase.Phase.{Phase}
use Rattle.group_commit.specs.declared.phase.Phase.TheVariants.{Idle, Pages, Close, Sync1, Body, Sync2, Gate, Sync3}

-- from a phase on, with this number of new pages: one write for each page that is left, the close where the stale gate reads 1, body and gate
abbrev pub writes_from : Phase → ℕ → Bool → ℕ
writes_from Idle pages stale_open = 0
writes_from (Pages k) pages stale_open = (pages - k) + (if stale_open then 3 else 2)
writes_from Close pages stale_open = 3
writes_from Sync1 pages stale_open = 2
writes_from Body pages stale_open = 2
writes_from Sync2 pages stale_open = 1
writes_from Gate pages stale_open = 1
writes_from Sync3 pages stale_open = 0

abbrev pub syncs_from : Phase → ℕ
syncs_from Idle = 0
syncs_from Body = 2
syncs_from Sync2 = 2
syncs_from Gate = 1
syncs_from Sync3 = 1
syncs_from phase = 3

-- how many writes and syncs there are up to the end of the commit
abbrev pub writes_left : {D : Type 0} → StoreHeld D → ℕ
writes_left held = writes_from held.phase (length held.numbers) held.stale_open

abbrev pub syncs_left : {D : Type 0} → StoreHeld D → ℕ
syncs_left held = syncs_from held.phase

-- the page that is written next is one of the new ones
abbrev pub IsWriting : {D : Type 0} → StoreHeld D → Type 0
IsWriting held = (k : ℕ) → held.phase ≡ Pages k → k < length held.numbers
