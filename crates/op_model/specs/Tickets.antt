-- What an edit's maker gets.
use Rattle.std.specs.Prelude.{ℕ, ◌+◌, Bool, true, false, List, length}
use Rattle.op_model.specs.declared.op.Op.{Op}
use Rattle.op_model.specs.Text.{rev}
use Rattle.op_model.specs.Tokens.{rev_with}

-- the length of the list right after the edit, the number of operations that its document had then, and whether the edit was made before,
-- under its token
pub record Ticket : Type 0 where
  pub end : ℕ
  pub rev : ℕ
  pub known : Bool

-- the ticket of a new edit of a document, behind which the list is this one
abbrev pub ticket_of : List Op → ℕ → Ticket
ticket_of list doc = record { end = length list; rev = rev list doc; known = false }

-- the ticket of an edit whose last operation this one is, behind those before it
abbrev pub ticket_behind : List Op × Op → Ticket
ticket_behind p = record { end = length p.0 + 1; rev = rev_with p; known = true }
