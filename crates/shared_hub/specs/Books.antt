-- The books of the passes, beside the steps that a replica keeps.
use Rattle.std.specs.Prelude.{◌≡◌, ℕ, zero, suc, ◌+◌, ◌==◌, if◌then◌else◌, List, [], ◌∷◌, ◌++◌, slice_get, Some}
use Rattle.op_model.specs.Replay.{Kept, edited, merged, settlement}
use Rattle.hub_parts.specs.Locked.{LockedHeld}
use Rattle.pass_books.specs.Accounts.{Account, PassHeld as HeldAt, BooksHeld as BooksAt}

-- what a pass holds: its number, its entries, and the moments at which it had the lock, newest first
abbrev pub PassHeld : Type 0
PassHeld = HeldAt LockedHeld

-- what all books hold, by number
abbrev pub BooksHeld : Type 0
BooksHeld = BooksAt LockedHeld

-- how long the list was behind each kept step of the session or the peer with this number, newest first
abbrev pub ends_of : ℕ → List Kept → List ℕ
ends_of n [] = []
ends_of n (edited session edit first count ∷ steps) =
    if session == n then (first + count) ∷ ends_of n steps else ends_of n steps
ends_of n (merged peer index ∷ steps) = if peer == n then (index + 1) ∷ ends_of n steps else ends_of n steps
ends_of n (settlement m ∷ steps) = ends_of n steps

-- each book has an entry for each kept step of its number: how long the list was behind that
abbrev pub BooksFit : List Kept → List (List ℕ) → Type 0
BooksFit steps books = (n : ℕ) (entries : List ℕ) → slice_get books n ≡ Some entries → entries ≡ ends_of n steps

-- n passes, numbered from 0 on, none of which has an entry or a moment
abbrev pub new_passes : ℕ → List PassHeld
new_passes zero = []
new_passes (suc n) = new_passes n ++ record { number = n; entries = []; moments = [] } ∷ []

-- nothing was entered into this book or share
pub record IsFresh (a : Account LockedHeld) : Type 0 where
  pub entries : a.entries ≡ []
  pub moments : a.moments ≡ []
