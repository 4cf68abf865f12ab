-- Which slot is live in the files that a crash may leave.
use Rattle.std.specs.Prelude.{◌≡◌, ◌≢◌, ◌⊎◌, ℕ, ◌-◌, ◌<◌, List, Ok}
use Rattle.disk_trait.specs.declared.facts.DiskFacts.{Ghosts}
use Rattle.root_slots.specs.Root.{version_of}
use Rattle.root_slots.specs.Slots.{gate, body, live}

-- every file that a crash now may leave is so
abbrev pub EachSurvivorIs : {D : Type 0} → Ghosts D → D → (List ℕ → Type 0) → Type 0
EachSurvivorIs facts disk Is_so = (c : List ℕ) → facts.survives disk c → Is_so c

-- this slot of the file is live
abbrev pub Lives : ℕ → List ℕ → Type 0
Lives slot file = live file ≡ Ok slot

-- this slot is live, and the other one's gate reads 1
pub record LivesOverOpen (slot : ℕ) (file : List ℕ) : Type 0 where
  pub lives : Lives slot file
  pub other : gate (1 - slot) file ≡ 1

-- this slot is live, and the other one's gate doesn't read 1
pub record LivesAlone (slot : ℕ) (file : List ℕ) : Type 0 where
  pub lives : Lives slot file
  pub other : gate (1 - slot) file ≢ 1

-- these bytes say a greater version than the body of this slot
abbrev pub IsNewer : ℕ → List ℕ → List ℕ → Type 0
IsNewer slot file bytes = version_of (body slot file) < version_of bytes

-- this slot lives alone, and the other one's body says a greater version
pub record LivesBeforeNewer (slot : ℕ) (file : List ℕ) : Type 0 where
  pub alone : LivesAlone slot file
  pub newer : IsNewer slot file (body (1 - slot) file)

-- this slot is live, or the other one is
abbrev pub LivesOrOther : ℕ → List ℕ → Type 0
LivesOrOther slot file = Lives slot file ⊎ Lives (1 - slot) file
