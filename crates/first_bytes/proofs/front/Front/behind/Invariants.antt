use Rattle.std.specs.Prelude.{◌≡◌, ◌++◌, List, ℕ, drop}
use Rattle.first_bytes.specs.Beginnings.{is_foreign_after}
use Rattle.first_bytes.proofs.front.Front.behind.Given as goal

-- what is left to look at decides as all of it does
abbrev pub invariant-loop-byte : goal.invariant-loop-byte
invariant-loop-byte l =
    (more : List ℕ) → is_foreign_after l.front (drop l.byte-index l.bytes ++ more) ≡ is_foreign_after l.fn.self (l.bytes ++ more)
