-- Two parts that are those of one hub.
use Rattle.std.specs.Prelude.{◌≡◌, ℕ, ◌≤◌, Bool, true, false, ◌&&◌, List, take}
use Rattle.op_model.specs.declared.op.Op.{Op}
use Rattle.root_slots.specs.Root.{replica_of, count_of}
use Rattle.group_commit.specs.Begin.{is_idle}
use Rattle.hub_parts.specs.Locked.{has_commit, LockedHeld}
use Rattle.hub_parts.specs.Flusher.{FlusherHeld}

-- what the locked part has to fit of a flusher: whose it is, its list, whether it has a commit, whether no device call of that
-- is left, and how many operations the live root has
pub record Side : Type 0 where
  pub owner : ℕ
  pub list : List Op
  pub due : Bool
  pub idle : Bool
  pub committed : ℕ

abbrev pub side_of : {D : Type 0} → FlusherHeld D → Side
side_of f = record {
  owner = replica_of f.store.current.body;
  list = f.list;
  due = f.due;
  idle = is_idle f.store.phase;
  committed = count_of f.store.current.body;
}

-- The two fit: they are of one replica, both have a commit or neither has, the flusher's list is the operations that were taken,
-- and those of the live root are the settled ones, or where the commit is through at least these.
pub record FitTogether (l : LockedHeld) (side : Side) : Type 0 where
  pub owner : side.owner ≡ l.replica.replica
  pub both : side.due ≡ has_commit l
  pub front : side.list ≡ take l.begun l.replica.list
  pub settled : (side.due && side.idle) ≡ false → l.replica.settled ≡ side.committed
  pub through : (side.due && side.idle) ≡ true → l.replica.settled ≤ side.committed
