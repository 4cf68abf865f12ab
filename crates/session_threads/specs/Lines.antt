-- The lines of a stream of bytes.
use Rattle.std.specs.Prelude.{ℕ, ◌==◌, List, [], ◌∷◌, Option, Some, None, map, length, nat_lt, if◌then◌else◌}
use Rattle.fixed_numbers.specs.declared.limits.TheConstants.{MAX_LINE}

-- a byte in front of the first of these lines; where there is none, it is dropped
abbrev pub onto_first : ℕ → List (List ℕ) → List (List ℕ)
onto_first b [] = []
onto_first b (line ∷ lines) = (b ∷ line) ∷ lines

-- the lines of a stream, each without its line feed; what comes behind the last line feed is dropped
abbrev pub lines_of : List ℕ → List (List ℕ)
lines_of [] = []
lines_of (b ∷ bytes) = if b == 10 then [] ∷ lines_of bytes else onto_first b (lines_of bytes)

-- a line, or nothing in place of one that has more bytes than this
abbrev pub fitting_in : ℕ → List ℕ → Option (List ℕ)
fitting_in most line = if nat_lt most (length line) then None else Some line

-- a line, or nothing in place of one that is too long, over 65,536 bytes
abbrev pub fitting : List ℕ → Option (List ℕ)
fitting line = fitting_in MAX_LINE line

-- the lines of a stream as they are read
abbrev pub lines_read : List ℕ → List (Option (List ℕ))
lines_read bytes = map fitting (lines_of bytes)
