-- Beginnings of what is written.
use Rattle.std.specs.Prelude.{◌≡◌, ◌++◌, List, ℕ, Option}
use Rattle.std.specs.Io.KnownBytes.{Appends}

-- a list begins with this one
abbrev pub BeginsWith : {A : Type 0} → List A → List A → Type 0
BeginsWith {A} all front = (rest : List A) × (all ≡ front ++ rest)

-- known bytes grow by a beginning of these
abbrev pub AppendsFront : Option (List ℕ) → Option (List ℕ) → List ℕ → Type 0
AppendsFront old new text = (written : List ℕ) × BeginsWith text written × Appends old new written
