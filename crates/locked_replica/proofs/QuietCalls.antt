-- Calls of a hub that make no device call.
use Rattle.std.proofs.Common.{◌≡◌, ℕ, ◌≤◌, Bool, List, refl, subst, arith, inl, inr}
use Rattle.disk_trait.specs.Calls.{IsLawful, LeavesOnly}
use Rattle.disk_trait.specs.declared.facts.DiskFacts.{Ghosts}
use Rattle.op_model.specs.Machine.{Event, edit, merge, begin, device_step, settle, ack, tell, have, Answer, goes_on, goes_through, refused, Step}
use Rattle.op_model.specs.Held.{ReplicaHeld}
use Rattle.group_commit.specs.Held.{StoreHeld}
use Rattle.locked_replica.specs.Hub.{Parts, state_of}
use Rattle.locked_replica.proofs.Fits.{Fits}
use Rattle.locked_replica.specs.Recovery.{HasAtLeast}
use Rattle.locked_replica.specs.Calls.{IsCall, IsLeftIn, Counts, StoreGoes, calls_in, failures_in, writes_begun, syncs_begun}
use Rattle.locked_replica.proofs.PartsOf.{parts}
use Rattle.locked_replica.proofs.Recovering.{survivor_has_settled, survivor_is_left}

-- what has more has fewer
pub has_fewer : (n m : ℕ) (h : ReplicaHeld) (file : List ℕ) → n ≤ m → HasAtLeast m h file → HasAtLeast n h file
has_fewer n m h file fewer has =
    let enough = has.enough in
    record { version = has.version; count = has.count; enough = omega arith; within = has.within; whole = has.whole; image = has.image }

-- a call that leaves the store as it was
pub counts_same : {D : Type 0} (facts : Ghosts D) (answer : Answer) (s : StoreHeld D) → writes_begun answer s ≡ 0 → syncs_begun answer ≡ 0
    → Counts facts answer s s
counts_same facts answer s none none_syncs =
    record { stays = λ failed. failed; writes = λ told works. rw none (omega arith); syncs = λ told works. rw none_syncs (omega arith) }

-- no more device calls fail than are made
few_failures : (event : Event) (answer : Answer) → failures_in event answer ≤ calls_in event answer
few_failures device_step goes_on = omega arith
few_failures device_step goes_through = omega arith
few_failures device_step (refused n) = omega arith
few_failures device_step answer = omega arith
few_failures (edit session e) answer = omega arith
few_failures (merge peer op) answer = omega arith
few_failures begin answer = omega arith
few_failures settle answer = omega arith
few_failures (ack t) answer = omega arith
few_failures (tell c) answer = omega arith
few_failures have answer = omega arith

-- a call that leaves the disk as it was
pub quiet_call : {D : Type 0} (facts : Ghosts D) (event : Event) (answer : Answer) (old new : Parts D) → new.store.disk ≡ old.store.disk
    → (facts.tells new.store.disk → IsLawful facts new.store.disk) → Fits facts new
    → Step (state_of old) event answer (state_of new) → old.replica.settled ≤ new.replica.settled → calls_in event answer ≡ 0
    → Counts facts answer old.store new.store → StoreGoes facts event answer old new.store → IsCall facts event answer old new
quiet_call {D} facts event answer old new same lawful fits step rises none counts goes =
    record {
      step = step;
      sound = fits.sound;
      store = goes;
      tells = rw same ((λ told. told), (λ told. told));
      time = λ told. rw (same, none) (omega arith);
      failures = λ told. let few = few_failures event answer in rw same (omega (arith, few, none));
      moments = λ told. subst (λ disk. LeavesOnly facts disk new.store.disk (IsLeftIn old new)) same (moments (rw same told));
      left = λ told file survives. survivor_has_settled facts new file fits told survives;
      recovers = λ told file survives. survivor_is_left facts new file fits told survives;
      counts = counts;
    }
  where
    has : facts.tells new.store.disk → (file : List ℕ) → facts.survives new.store.disk file → IsLeftIn old new file
    has told file survives =
        record {
          has = has_fewer old.replica.settled new.replica.settled new.replica file rises (survivor_has_settled facts new file fits told survives);
          around = inr (survivor_is_left facts new file fits told survives);
        }

    moments : facts.tells new.store.disk → LeavesOnly facts new.store.disk new.store.disk (IsLeftIn old new)
    moments told =
        record {
          later = omega arith;
          each = λ file left. has told file ((lawful told).only_now file left);
          before = λ t file earlier left. inl left;
        }

-- a call that leaves the replica and the store, whatever is told of a failure
pub quiet_same : {D : Type 0} {was is : Bool} (facts : Ghosts D) (event : Event) (answer : Answer) (h : ReplicaHeld) (s : StoreHeld D)
    → (facts.tells s.disk → IsLawful facts s.disk) → Fits facts (parts h s is)
    → Step (state_of (parts h s was)) event answer (state_of (parts h s is))
    → calls_in event answer ≡ 0 → writes_begun answer s ≡ 0 → syncs_begun answer ≡ 0
    → StoreGoes facts event answer (parts h s was) s → IsCall facts event answer (parts h s was) (parts h s is)
quiet_same {was = was} {is = is} facts event answer h s lawful fits step none no_writes no_syncs goes =
    quiet_call facts event answer (parts h s was) (parts h s is) refl lawful fits step (omega arith) none
    (counts_same facts answer s no_writes no_syncs) goes
