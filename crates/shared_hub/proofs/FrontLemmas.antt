-- Files that hold a beginning of a flusher's list.
use Rattle.std.proofs.Common.{◌≡◌, ℕ, List, false, refl, ◌∙◌, arith, inl, inr, ◌⊎◌}
use Rattle.std.specs.Prelude.{◌≤◌}
use Rattle.disk_trait.specs.declared.facts.DiskFacts.{Ghosts}
use Rattle.op_model.specs.declared.op.Op.{Op}
use Rattle.root_slots.specs.Root.{count_of, replica_of}
use Rattle.group_commit.specs.Begin.{is_idle}
use Rattle.group_commit.specs.Commit.{IsLeft, IsRootOf}
use Rattle.group_commit.specs.Saved.{Saved}
use Rattle.group_commit.specs.declared.phase.Phase.{Phase}
use Rattle.group_commit.specs.declared.phase.Phase.TheVariants.{Idle, Pages, Close, Sync1, Body, Sync2, Gate, Sync3}
use Rattle.hub_parts.proofs.Fronts.{front_grows}
use Rattle.hub_parts.specs.Flusher.{IsFlusher, IsUnderWay, FlusherHeld}
use Rattle.shared_hub.specs.Going.{Extends, HoldsFront}

-- one that holds a beginning of a list holds one of a longer list, with as many operations or fewer
pub holds_on : (owner its least more : ℕ) (list longer : List Op) (file : List ℕ) → its ≡ owner → least ≤ more → Extends list longer
    → HoldsFront its more list file → HoldsFront owner least longer file
holds_on owner its least more list longer file same fewer extends held =
    let enough = held.enough in
    record {
      root = held.root;
      holds = held.holds;
      owner = held.owner ∙ same;
      enough = omega (arith, fewer, enough);
      front = rw extends.1 (front_grows list extends.0 held.root held.front);
    }

-- what a crash leaves in a phase has the live root, or in the last one that of the commit
left_root : (phase : Phase) (current next : Saved) (file : List ℕ) → IsLeft phase current next file
    → IsRootOf current file ⊎ ((is_idle phase ≡ false) × IsRootOf next file)
left_root Sync3 current next file (inl is) = inl is
left_root Sync3 current next file (inr is) = inr (refl, is)
left_root Idle current next file is = inl is
left_root (Pages k) current next file is = inl is
left_root Close current next file is = inl is
left_root Sync1 current next file is = inl is
left_root Body current next file is = inl is
left_root Sync2 current next file is = inl is
left_root Gate current next file is = inl is

-- so it holds a beginning of the flusher's list, with all that the live root has
pub left_holds : {D : Type 0} (facts : Ghosts D) (f : FlusherHeld D) (file : List ℕ) → IsFlusher facts f
    → IsLeft f.store.phase f.store.current f.store.next file
    → HoldsFront (replica_of f.store.current.body) (count_of f.store.current.body) f.list file
left_holds facts f file kept left = by_root (left_root f.store.phase f.store.current f.store.next file left)
  where
    by_root : IsRootOf f.store.current file ⊎ ((is_idle f.store.phase ≡ false) × IsRootOf f.store.next file)
        → HoldsFront (replica_of f.store.current.body) (count_of f.store.current.body) f.list file
    by_root (inl is) = record { root = f.store.current; holds = is; owner = refl; enough = omega arith; front = kept.live }
    by_root (inr (busy, is)) =
        let way : IsUnderWay f = rw busy at kept.commit in
        let within = kept.live.within in
        let all = way.all in
        record { root = f.store.next; holds = is; owner = way.owner; enough = omega (arith, within, all); front = way.front }
