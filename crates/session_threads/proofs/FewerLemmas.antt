-- Each device call of a commit leaves fewer.
use Rattle.std.proofs.Common.{◌≡◌, ℕ, ◌+◌, ◌-◌, ◌<◌, Bool, true, false, nat_lt, length, refl, ap, arith, Some, None}
use Rattle.std.specs.Prelude.{if◌then◌else◌}
use Rattle.std.proofs.lemmas.Bool.{ltb-true}
use Rattle.disk_trait.specs.declared.facts.DiskFacts.{Ghosts}
use Rattle.group_commit.specs.Begin.{is_idle}
use Rattle.group_commit.specs.Held.{StoreHeld, gone_on}
use Rattle.group_commit.specs.declared.phase.Phase.{Phase}
use Rattle.group_commit.specs.declared.phase.Phase.TheVariants.{Idle, Pages, Close, Sync1, Body, Sync2, Gate, Sync3}
use Rattle.op_model.specs.Machine.{is_under_way, device_step}
use Rattle.op_model.specs.Held.{ReplicaHeld}
use Rattle.locked_replica.specs.Calls.{IsCall}
use Rattle.locked_replica.specs.Hub.{Parts, commit_in, commit_of, state_of}
use Rattle.locked_replica.specs.Steps.{stepped_in}
use Rattle.session_threads.proofs.CallsLeft.{calls_from, calls_left}

-- at rest no commit is under way
at_rest : (settled live next : ℕ) → is_under_way (commit_in true settled live next) ≡ true → ⊥
at_rest settled live next = by_test (nat_lt settled live)
  where
    by_test : (t : Bool) → is_under_way (if t then Some (record { count = live; through = true }) else None) ≡ true → ⊥
    by_test true is = absurd (cc)
    by_test false is = absurd (cc)

by_rest : (idle : Bool) (settled live next : ℕ) → is_under_way (commit_in idle settled live next) ≡ true → idle ≡ false
by_rest false settled live next is = refl
by_rest true settled live next is = absurd (at_rest settled live next is)

-- the store of a hub with a commit under way isn't idle
is_working : {D : Type 0} (replica : ReplicaHeld) (store : StoreHeld D) → is_under_way (commit_of replica store) ≡ true → is_idle store.phase ≡ false
is_working replica store is = by_rest (is_idle store.phase) _ _ _ is

-- behind a page fewer calls are left
behind_fewer : (k pages : ℕ) (stale more : Bool) → nat_lt (k + 1) pages ≡ more
    → calls_from pages (if more then Pages (k + 1) else if stale then Close else Sync1) < (pages - k) + 7
behind_fewer k pages stale true is = let less = ltb-true (k + 1) pages is in omega (arith, less)
behind_fewer k pages true false is = omega arith
behind_fewer k pages false false is = omega arith

by_phase : {D : Type 0} (p : Phase) (s : StoreHeld D) (disk : D) → s.phase ≡ p → is_idle p ≡ false
    → calls_left (gone_on p s disk) < calls_from (length s.numbers) p
by_phase Idle s disk is busy = absurd (cc)
by_phase (Pages k) s disk is busy = behind_fewer k (length s.numbers) s.stale_open (nat_lt (k + 1) (length s.numbers)) refl
by_phase Close s disk is busy = omega arith
by_phase Sync1 s disk is busy = omega arith
by_phase Body s disk is busy = omega arith
by_phase Sync2 s disk is busy = omega arith
by_phase Gate s disk is busy = omega arith
by_phase Sync3 s disk is busy = omega arith

module _ {D : Type 0} (facts : Ghosts D) (hub new : Parts D) (under_way : is_under_way (state_of hub).commit ≡ true) where
  -- a device step that is answered with a phase made the call of the store's phase
  went_on : (p : Phase) → IsCall facts device_step (stepped_in p) hub new → new.store ≡ gone_on hub.store.phase hub.store new.store.disk
  went_on Idle made = let rests = made.step.1 in absurd (cc)
  went_on (Pages k) made = made.store.next
  went_on Close made = made.store.next
  went_on Sync1 made = made.store.next
  went_on Body made = made.store.next
  went_on Sync2 made = made.store.next
  went_on Gate made = made.store.next
  went_on Sync3 made = made.store.next

  -- so fewer calls are left
  pub fewer_left : (p : Phase) → IsCall facts device_step (stepped_in p) hub new → calls_left new.store < calls_left hub.store
  fewer_left p made =
      rw (ap calls_left (went_on p made)) (by_phase hub.store.phase hub.store new.store.disk refl (is_working hub.replica hub.store under_way))
