-- What goes out over a stream to which two write.
use Rattle.std.specs.Prelude.{◌≡◌, ◌++◌, ℕ, List, Bool, Option}
use Rattle.std.specs.Io.KnownBytes.{Appends}

-- what waits of frames that were taken, and whether a line was written in part
pub record Outgoing : Type 0 where
  pub waiting : List ℕ
  pub is_cut : Bool

-- a beginning of these bytes went out, and the rest waits
abbrev pub GoesOut : Option (List ℕ) → Option (List ℕ) → List ℕ → List ℕ → Type 0
GoesOut before after bytes waiting = (sent : List ℕ) × (bytes ≡ sent ++ waiting) × Appends before after sent
