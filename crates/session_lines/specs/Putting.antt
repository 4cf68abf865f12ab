-- Bytes that are put at the end of a buffer.
use Rattle.std.specs.Prelude.{◌≡◌, ◌≤◌, ◌-◌, ℕ, List, ◌++◌, length, slice_range, Result, OnOk, OnErr, vec_capacity}
use Rattle.std.specs.Global.{Vec}
use Rattle.session_lines.specs.Words.{quoted}

-- what stands between the quotes of bytes of UTF-8 as a JSON string
abbrev pub inside : List ℕ → List ℕ
inside bytes = slice_range (quoted bytes) 1 (length (quoted bytes) - 1)

-- these bytes are put, or some others if memory is refused; what stood before stays, and the room is no smaller
pub record Puts {T E : Type 0} (r : Result T E) (old new : Vec ℕ) (bytes : List ℕ) : Type 0 where
  pub ok : OnOk r (new.items ≡ old.items ++ bytes)
  pub err : OnErr r ((some : List ℕ) × (new.items ≡ old.items ++ some))
  pub capacity : vec_capacity old ≤ vec_capacity new
