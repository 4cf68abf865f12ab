-- The file of a disk in memory.
use Rattle.std.specs.Prelude.{◌≡◌, ℕ, List, [], ◌∷◌, ◌++◌, length}
use Rattle.disk_trait.specs.File.{overwritten}
use Rattle.disk_trait.specs.Survivors.{MayLeave}
use Rattle.disk_trait.specs.declared.medium.Medium.{Medium}

-- a crash may leave this file of it
abbrev pub Leaves : Medium → List ℕ → Type 0
Leaves medium c = MayLeave (length medium.bytes.items) medium.settled.items medium.unsettled.items c

-- these bytes are written at an offset: the settled file stays, and their range is one more that
-- isn't settled
pub record HasWritten (at : ℕ) (written : List ℕ) (old new : Medium) : Type 0 where
  pub bytes : new.bytes.items ≡ overwritten old.bytes.items at written
  pub settled : new.settled.items ≡ old.settled.items
  pub unsettled : new.unsettled.items ≡ old.unsettled.items ++ (at, length written) ∷ []
