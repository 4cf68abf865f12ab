-- Which guests may come in.
use Rattle.std.specs.Prelude.{ℕ, Bool, true, false, List, [], ◌∷◌, find, bytes_eq, Option, None, Result, Ok, Err, if◌then◌else◌}
use Rattle.std.specs.List.{list_any}
use Rattle.web_guests.specs.OwnHost.{is_own_host}
use Rattle.web_guests.specs.declared.refusal.Refusal.{Refusal}
use Rattle.web_guests.specs.declared.refusal.Refusal.TheVariants.{ForbiddenHost, ForbiddenOrigin}

-- there is one host, and it is this machine at this port
abbrev pub host_is_own : ℕ → List (List ℕ) → Bool
host_is_own port [] = false
host_is_own port (host ∷ []) = is_own_host port host
host_is_own port (host ∷ other ∷ more) = false

-- the origin is one of those that are named, byte for byte
abbrev pub is_named : List (List ℕ) → List ℕ → Bool
is_named named origin = list_any (λ known. bytes_eq known origin) named

-- there is no origin, or one and a named one
abbrev pub is_welcome : List (List ℕ) → List (List ℕ) → Bool
is_welcome named [] = true
is_welcome named (origin ∷ []) = is_named named origin
is_welcome named (origin ∷ other ∷ more) = false

-- the named one that is the origin, if one alone is stated
abbrev pub origin_in : List (List ℕ) → List (List ℕ) → Option (List ℕ)
origin_in named [] = None
origin_in named (origin ∷ []) = find (λ known. bytes_eq known origin) named
origin_in named (origin ∷ other ∷ more) = None

-- a guest with these hosts and origins may come in; else it is refused for its host, or for its origin
abbrev pub guest_check : ℕ → List (List ℕ) → List (List ℕ) → List (List ℕ) → Result (Unit {0}) Refusal
guest_check port named hosts origins =
    if host_is_own port hosts then if is_welcome named origins then Ok tt else Err ForbiddenOrigin
    else Err ForbiddenHost
