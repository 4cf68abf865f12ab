-- What a failing write makes of a file.
use Rattle.std.specs.Prelude.{◌≡◌, ◌<◌, ℕ, ◌+◌, ◌-◌, ◌/◌, ◌^◌, Result, IsErrOf, List, ◌++◌, length, take, replicate}
use Rattle.disk_trait.specs.File.{overwritten, part}
use Rattle.disk_trait.specs.declared.error.DiskError.{DiskError}
use Rattle.disk_trait.specs.declared.error.DiskError.TheVariants.{WriteFailed}
use Rattle.disk_trait.specs.declared.facts.DiskFacts.{Ghosts}

-- the file with zeros up to this size
abbrev pub extended : List ℕ → ℕ → List ℕ
extended file size = file ++ replicate (size - length file) 0

-- n bytes of the file from this offset on, with zeros past the end
abbrev pub padded : List ℕ → ℕ → ℕ → List ℕ
padded file at n = part file at n ++ replicate (n - (length file - at)) 0

-- the file with the first half of these bytes at this offset, and the rest of the range as it was
abbrev pub half_written : List ℕ → ℕ → List ℕ → List ℕ
half_written file at bytes =
    extended (overwritten file at (take (length bytes / 2) bytes)) (at + length bytes)

-- a write that failed, by a disk that didn't fail by itself, has made the first half of its bytes
abbrev pub HalfWrites : {D : Type 0} → Ghosts D → ℕ → List ℕ → Result (Unit {0}) DiskError → D → D
    → Type 0
HalfWrites facts at bytes answer old new =
    IsErrOf answer WriteFailed → facts.failures new ≡ facts.failures old
    → at + length bytes < 2 ^ 64 → facts.content new ≡ half_written (facts.content old) at bytes
