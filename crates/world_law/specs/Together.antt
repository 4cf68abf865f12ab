-- The operations that carry an edit's token are that edit's, one after another.
use Rattle.std.specs.Prelude.{◌≡◌, ◌⊎◌, ℕ, List, ◌++◌, Some, None}
use Rattle.op_model.specs.declared.op.Op.{Op}
use Rattle.op_model.specs.Actions.{Asked, made_by_action}
use Rattle.op_model.specs.Tokens.{carries, last_of}
use Rattle.op_model.specs.Machine.{State}
use Rattle.world_law.specs.World.{World, HasMachine}

-- none of these operations is the replica's own and carries the token
abbrev pub HasNone : ℕ → ℕ → List Op → Type 0
HasNone replica token ops = last_of (carries replica token) ops ≡ None

-- All of the replica's operations with this token are those that one edit makes of the list before them: they stand one after another, and
-- none stands before or after them.
pub record IsOneEdit (replica token : ℕ) (list : List Op) : Type 0 where
  pub edit : Asked
  pub named : edit.token ≡ Some token
  pub front : List Op
  pub rest : List Op
  pub whole : list ≡ (front ++ made_by_action front replica edit) ++ rest
  pub before : HasNone replica token front
  pub after : HasNone replica token rest

-- under each token a replica has no operation, or those of one edit
abbrev pub TokensNameOneEdit : World → Type 0
TokensNameOneEdit w =
    (m : State) (token : ℕ) → HasMachine w.machines m
    → HasNone m.held.replica token m.held.list ⊎ IsOneEdit m.held.replica token m.held.list
