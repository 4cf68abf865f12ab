-- What each replica of a world keeps, and what a change of its state keeps.
use Rattle.std.proofs.Common.{◌≡◌, ℕ, ◌≤◌, ◌⊎◌, inl, inr, List, ◌++◌, length, take, refl, Option, Some, None}
use Rattle.op_model.specs.declared.op.Op.{Op}
use Rattle.op_model.specs.Causality.{HasOp, IsCausallyClosed}
use Rattle.op_model.specs.Machine.{Commit, State}
use Rattle.world_law.specs.World.{Message, IsInBag}
use Rattle.world_law.proofs.Members.{IsInBag-more}

-- a commit has from low to high operations
abbrev pub IsWithin : ℕ → ℕ → Option Commit → Type 0
IsWithin low high None = Unit {0}
IsWithin low high (Some c) = (low ≤ c.count) × (c.count ≤ high)

-- the operations are the replica's own, or were told
abbrev pub IsForeignTold : ℕ → List Message → List Op → Type 0
IsForeignTold replica bag ops = (op : Op) → HasOp ops op → (op.id.replica ≡ replica) ⊎ IsInBag bag op

-- what a replica keeps
pub record IsSound (bag : List Message) (s : State) : Type 0 where
  pub closed : IsCausallyClosed s.held.list
  pub foreign : IsForeignTold s.held.replica bag s.held.list
  pub settled : s.held.settled ≤ length s.held.list
  pub commit : IsWithin s.held.settled (length s.held.list) s.commit

-- all that was settled is settled
abbrev pub KeepsSettled : State → State → Type 0
KeepsSettled s next = (op : Op) → HasOp (take s.held.settled s.held.list) op → HasOp (take next.held.settled next.held.list) op

-- a change of state keeps all of this, and the number
pub record Goes (bag : List Message) (s next : State) : Type 0 where
  pub sound : IsSound bag next
  pub number : next.held.replica ≡ s.held.replica
  pub kept : KeepsSettled s next

pub goes_same : (bag : List Message) (s next : State) → IsSound bag s → next ≡ s → Goes bag s next
goes_same bag s next sound is = rw is (record { sound = sound; number = refl; kept = λ op h. h })

-- what is told later changes nothing
pub IsSound-more : (new bag : List Message) (s : State) → IsSound bag s → IsSound (new ++ bag) s
IsSound-more new bag s sound = record {
  closed = sound.closed;
  foreign = λ op h. elim (sound.foreign op h) [ inl e ↦ inl e | inr k ↦ inr (IsInBag-more new bag op k) ];
  settled = sound.settled;
  commit = sound.commit;
}
