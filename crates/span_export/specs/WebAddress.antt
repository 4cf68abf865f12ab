-- Which addresses a link may lead to.
use Rattle.std.specs.Prelude.{ℕ, List, ◌==◌, Bool, true, ◌||◌, Option, Some, None, option_and_then}
use Rattle.std.specs.Prelude.{map, codes, take, slice_index, bytes_eq, if◌then◌else◌}
use Rattle.std.specs.Char.{to_ascii_lowercase}
use Rattle.std.specs.List.{position}

-- a colon, a slash, a question mark or a number sign: the first of these says whether an address has a scheme
abbrev pub ends_scheme : ℕ → Bool
ends_scheme byte = byte == 58 || (byte == 47 || (byte == 63 || byte == 35))

-- what stands before this place, if there is a colon
abbrev pub before_colon : List ℕ → ℕ → Option (List ℕ)
before_colon address place = if slice_index address place == 58 then Some (take place address) else None

-- the scheme of an address: what stands before its colon, where no slash, question mark or number sign comes earlier
abbrev pub scheme : List ℕ → Option (List ℕ)
scheme address = option_and_then (before_colon address) (position ends_scheme address)

-- two names are the same, in small or great letters
abbrev pub is_name : List ℕ → List ℕ → Bool
is_name name other = bytes_eq (map to_ascii_lowercase name) (map to_ascii_lowercase other)

-- a scheme that leads to a page or opens a letter, or none
abbrev pub is_tame_scheme : Option (List ℕ) → Bool
is_tame_scheme None = true
is_tame_scheme (Some name) = is_name name (codes "http") || (is_name name (codes "https") || is_name name (codes "mailto"))

-- an address that a link may lead to: nothing of it is run as a program
abbrev pub is_tame : List ℕ → Bool
is_tame address = is_tame_scheme (scheme address)
