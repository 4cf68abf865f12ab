-- How a writer changes a vector.
use Rattle.std.specs.Prelude.{◌≡◌, ℕ, ◌+◌, ◌≤◌, List, ◌++◌, length, vec_len, vec_capacity}
use Rattle.std.specs.Global.{Vec}

-- room was reserved for these bytes
abbrev pub HasRoom : Vec ℕ → List ℕ → Type 0
HasRoom out bytes = vec_len out + length bytes ≤ vec_capacity out

-- new is old with these bytes at its end, in the room that it had
pub record Appends (old new : Vec ℕ) (bytes : List ℕ) : Type 0 where
  pub items : new.items ≡ old.items ++ bytes
  pub len : vec_len new ≡ vec_len old + length bytes
  pub capacity : vec_capacity new ≡ vec_capacity old
