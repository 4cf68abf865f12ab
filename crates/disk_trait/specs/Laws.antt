-- The rule of torn writes, call by call.
use Rattle.std.specs.Prelude.{◌≡◌, ◌↔◌, ◌≤◌, ℕ, ◌+◌, max, List, [], ◌∷◌, ◌++◌, length}
use Rattle.disk_trait.specs.File.{Torn}
use Rattle.disk_trait.specs.Survivors.{Range, MayLeave}

-- right after a sync a crash may leave the settled file and nothing else
abbrev pub SettledAlone : Type 0
SettledAlone = (settled c : List ℕ) → MayLeave (length settled) settled [] c ↔ (c ≡ settled)

-- after one more write in place, exactly what it could leave before, torn in the range of the write
abbrev pub TornByEachWrite : Type 0
TornByEachWrite =
    (size : ℕ) (settled : List ℕ) (ranges : List Range) (at n : ℕ) (c : List ℕ)
    → length settled ≤ size → at ≤ size
    → MayLeave (max size (at + n)) settled (ranges ++ (at, n) ∷ []) c
    ↔ ((d : List ℕ) × MayLeave size settled ranges d × Torn at n d c)
