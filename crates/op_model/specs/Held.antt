-- What a replica holds, and what its calls make of it.
use Rattle.std.specs.Prelude.{ℕ, List, [], ◌∷◌, ◌++◌, length, take, max}
use Rattle.op_model.specs.declared.op.Op.{Op}
use Rattle.op_model.specs.Actions.{Asked, made_by_action}
use Rattle.op_model.specs.Replay.{Kept, edited, merged, settlement}

-- its name, its list, how long that was at opening, its three numbers, and the steps since then, newest first
pub record ReplicaHeld : Type 0 where
  pub replica : ℕ
  pub list : List Op
  pub opened : ℕ
  pub settled : ℕ
  pub acked : ℕ
  pub told : ℕ
  pub steps : List Kept

-- what a replica holds that was opened with this list
abbrev pub opened_with : ℕ → List Op → ReplicaHeld
opened_with replica list = record {
  replica = replica;
  list = list;
  opened = length list;
  settled = length list;
  acked = length list;
  told = length list;
  steps = [];
}

-- its settled operations
abbrev pub settled_list : ReplicaHeld → List Op
settled_list h = take h.settled h.list

-- with all operations of a session's action
abbrev pub with_edit : ReplicaHeld → ℕ → Asked → ReplicaHeld
with_edit h session e = record h {
  list = h.list ++ made_by_action h.list h.replica e;
  steps = edited session e (length h.list) (length (made_by_action h.list h.replica e)) ∷ h.steps;
}

-- with one operation of a peer
abbrev pub with_merge : ReplicaHeld → ℕ → Op → ReplicaHeld
with_merge h peer op = record h { list = h.list ++ op ∷ []; steps = merged peer (length h.list) ∷ h.steps }

-- with n operations settled
abbrev pub with_settled : ReplicaHeld → ℕ → ReplicaHeld
with_settled h n = record h { settled = n; steps = settlement n ∷ h.steps }

-- with at least n operations acknowledged
abbrev pub with_acked : ReplicaHeld → ℕ → ReplicaHeld
with_acked h n = record h { acked = max h.acked n }

-- with at least n operations told
abbrev pub with_told : ReplicaHeld → ℕ → ReplicaHeld
with_told h n = record h { told = max h.told n }
