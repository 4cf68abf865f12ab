-- How an answer is passed on.
use Rattle.std.specs.Prelude.{ℕ, List, Option}
use Rattle.std.specs.Io.KnownBytes.{Appends, Consumes}

-- what was taken from one stream was put on another one, and nothing else
pub record Passes (from_old from_new to_old to_new : Option (List ℕ)) : Type 0 where
  pub bytes : List ℕ
  pub taken : Consumes from_old from_new bytes
  pub put : Appends to_old to_new bytes
