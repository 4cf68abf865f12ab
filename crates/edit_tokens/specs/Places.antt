-- Where the edits of a replica that had a token stand in its list.
use Rattle.std.specs.Prelude.{◌≡◌, ℕ, ◌+◌, if◌then◌else◌, List, length, take, Option, MatchOption, None, Some}
use Rattle.std.specs.BTreeMap.{is_at}
use Rattle.std.specs.List.{slice_get}
use Rattle.std.specs.List.Sorted.{IsNonDecreasingBy}
use Rattle.std.specs.Map.{lookup}
use Rattle.std.specs.Option.{option_map}
use Rattle.std.specs.Ordering.{nat_cmp}
use Rattle.op_model.specs.declared.op.Op.{Op}
use Rattle.op_model.specs.Tokens.{carries, is_token, last_of, rev_with}
use Rattle.edit_tokens.specs.declared.place.Place.{Place}

-- the place that is kept for a token, if one is: that of the first entry with the token
abbrev pub place_of : List (ℕ × Place) → ℕ → Option Place
place_of places token = lookup (is_at (nat_cmp token)) places

-- the places are as before, but that the token, if there is one, has this place, or none
abbrev pub Puts : Option ℕ → Option Place → List (ℕ × Place) → List (ℕ × Place) → Type 0
Puts token place old new = (other : ℕ) → place_of new other ≡ (if is_token other token then place else place_of old other)

-- each token has the same place in both, or none in both
abbrev pub FindsAlike : List (ℕ × Place) → List (ℕ × Place) → Type 0
FindsAlike old new = (token : ℕ) → place_of new token ≡ place_of old token

-- the tokens rise, of which equal ones may stand beside each other
abbrev pub AreSorted : List (ℕ × Place) → Type 0
AreSorted = IsNonDecreasingBy (λ (e : ℕ × Place). e.0)

-- the token stands at this index, with a place, and not before it
pub record IsFirst (places : List (ℕ × Place)) (token index : ℕ) : Type 0 where
  pub place : Place
  pub here : slice_get places index ≡ Some (token, place)
  pub before : place_of (take index places) token ≡ None

-- the first index at which the token stands, or `None` where it isn't there
abbrev pub IsAt : List (ℕ × Place) → ℕ → Option ℕ → Type 0
IsAt places token at = MatchOption at (place_of places token ≡ None) (IsFirst places token)

-- where an operation stands behind others: the length of the list with it, and how many operations its document has then
abbrev pub place_at : List Op × Op → Place
place_at p = record { end = length p.0 + 1; rev = rev_with p }

-- for each token the place is kept of the last operation of this replica that carries it, if there is one
pub record AreTokens (places : List (ℕ × Place)) (replica : ℕ) (ops : List Op) : Type 0 where
  pub kept : (token : ℕ) → place_of places token ≡ option_map place_at (last_of (carries replica token) ops)
