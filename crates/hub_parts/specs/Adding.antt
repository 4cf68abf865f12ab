-- How what waits grows.
use Rattle.std.specs.Prelude.{◌≡◌, ℕ, ◌+◌, List, ◌++◌, length, Option}
use Rattle.model_laws.specs.Acting.{NoneRefused}
use Rattle.op_model.specs.Actions.{made_in_turn}
use Rattle.op_model.specs.Causality.{IsCausallyClosed}
use Rattle.op_model.specs.declared.edit.Change.{Change}
use Rattle.op_model.specs.declared.op.Op.{Op}
use Rattle.op_model.specs.Waiting.{changes_length}
use Rattle.piece_codec.specs.Stream.{SpellsList}
use Rattle.group_commit.specs.Plan.{newest}

-- now stand behind what was there records of so many bytes, which spell these operations
pub record Adds (was now : List ℕ) (ops : List Op) (bytes : ℕ) : Type 0 where
  pub records : List ℕ
  pub spells : SpellsList newest ops records
  pub long : length records ≡ bytes
  pub behind : now ≡ was ++ records

-- of the operations of some changes those of the first ones are put, and these are left, of the changes that are left
pub record IsPutting (was now : List ℕ) (ops rest : List Op) (doc : ℕ) (token : Option ℕ) (all left : List Change) : Type 0 where
  -- whose they are, and what stands before those that are left
  pub replica : ℕ
  pub list : List Op
  pub closed : IsCausallyClosed list
  pub due : NoneRefused list replica doc token left
  pub rest_is : rest ≡ made_in_turn list replica doc token left
  -- those that are put
  pub front : List Op
  pub bytes : ℕ
  pub adds : Adds was now front bytes
  pub whole : front ++ rest ≡ ops
  pub long : bytes + changes_length left rest ≡ changes_length all ops
