-- The line that a session is reading: what is there of it, or nothing once it is too long.
use Rattle.std.specs.Prelude.{◌≡◌, false, ⊤, ℕ, ◌==◌, List, [], ◌∷◌, ◌++◌, Option, Some, None, if◌then◌else◌}
use Rattle.session_threads.specs.Lines.{fitting}

-- the line with these bytes behind it
abbrev pub longer : Option (List ℕ) → List ℕ → Option (List ℕ)
longer None bytes = None
longer (Some line) bytes = fitting (line ++ bytes)

-- the line isn't so long that it would be dropped
abbrev pub FitsALine : Option (List ℕ) → Type 0
FitsALine held = longer held [] ≡ held

-- the lines that these bytes end, the first of them begun before
abbrev pub lines_after : Option (List ℕ) → List ℕ → List (Option (List ℕ))
lines_after held [] = []
lines_after held (b ∷ bytes) =
    if b == 10 then held ∷ lines_after (Some []) bytes else lines_after (longer held (b ∷ [])) bytes

-- the line that is begun after these bytes
abbrev pub held_after : Option (List ℕ) → List ℕ → Option (List ℕ)
held_after held [] = held
held_after held (b ∷ bytes) =
    if b == 10 then held_after (Some []) bytes else held_after (longer held (b ∷ [])) bytes

-- no byte is a line feed
abbrev pub HasNoFeed : List ℕ → Type 0
HasNoFeed [] = ⊤
HasNoFeed (b ∷ bytes) = ((b == 10) ≡ false) × HasNoFeed bytes
