-- What a shared hub tells over a link.
use Rattle.std.specs.Prelude.{ℕ, List}
use Rattle.op_model.specs.declared.op.Op.{Op}
use Rattle.op_model.specs.Machine.{have, tell, clock, operations}
use Rattle.shared_hub.specs.Books.{PassHeld}
use Rattle.shared_hub.specs.Shared.{EntersTo}

-- this was the clock of the settled operations, all of which count as told, at a moment that the pass has entered
abbrev pub Has : PassHeld → List (ℕ × ℕ) → PassHeld → Type 0
Has old c new = EntersTo old old new have (clock c)

-- these were the first settled operations that the clock doesn't count, and they count as told, at a moment that the pass has entered
abbrev pub Tells : PassHeld → List (ℕ × ℕ) → List Op → PassHeld → Type 0
Tells old c ops new = EntersTo old old new (tell c) (operations ops)
