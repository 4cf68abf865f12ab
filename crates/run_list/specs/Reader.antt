-- How far a list was read.
use Rattle.std.specs.Prelude.{◌≡◌, ℕ, zero, suc, ◌≤◌, List, length, take, get_or, Option, Some, None}
use Rattle.op_model.specs.declared.op.Op.{Op}
use Rattle.run_list.specs.Reading.{runs_of}
use Rattle.run_list.specs.Column.{changes_in}
use Rattle.run_list.specs.Told.{bare_ops, tokens_of}
use Rattle.run_list.specs.declared.following.Begun.{Begun}

-- a list, and how many of its operations were read
pub record ReaderHeld : Type 0 where
  pub list : List Op
  pub at : ℕ

-- so many runs, and changes of the token, are begun with these
pub record AreBegun (ops : List Op) (begun : Begun) : Type 0 where
  pub runs : begun.runs ≡ runs_of (bare_ops ops)
  pub changes : begun.changes ≡ changes_in (tokens_of ops)

-- the last one that was read is known
abbrev pub IsRead : List Op → ℕ → Option Op → Type 0
IsRead list zero op = op ≡ None
IsRead list (suc at) None = ⊥
IsRead list (suc at) (Some op) = op ≡ get_or list at op

-- no more were read than there are, what these begin is known, and so is the last one
pub record HasRead (list : List Op) (at : ℕ) (begun : Begun) (op : Option Op) : Type 0 where
  pub within : at ≤ length list
  pub begins : AreBegun (take at list) begun
  pub last : IsRead list at op
