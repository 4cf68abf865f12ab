-- What is read of a guest.
use Rattle.std.specs.Prelude.{◌≡◌, ◌++◌, ℕ, List, Option}
use Rattle.std.specs.Io.KnownBytes.{Consumes}

-- some bytes were taken from the stream, and stand after those that were there
abbrev pub TakesMore : Option (List ℕ) → Option (List ℕ) → List ℕ → List ℕ → Type 0
TakesMore left_before left_after old new =
    (bytes : List ℕ) × (new ≡ old ++ bytes) × Consumes left_before left_after bytes
