-- What a crash leaves of a hub, by what the hub keeps.
use Rattle.std.proofs.Common.{◌≡◌, ℕ, ◌+◌, ◌-◌, ◌≤◌, Bool, true, false, nat_lt, List, length}
use Rattle.std.proofs.Common.{take, drop, refl, sym, ap, ◌∙◌, arith, inl, inr, Ok, Option, Some}
use Rattle.std.proofs.Common.{None, [], ◌∷◌, ◌<◌}
use Rattle.std.specs.Prelude.{if◌then◌else◌, Contains}
use Rattle.std.proofs.lemmas.Bool.Decides.{nat_tests}
use Rattle.std.proofs.lemmas.List.{take-append-drop, length-take-le}
use Rattle.disk_trait.specs.declared.facts.DiskFacts.{Ghosts}
use Rattle.op_model.specs.declared.op.Op.{Op}
use Rattle.op_model.specs.Causality.{IsCausallyClosed}
use Rattle.op_model.specs.Machine.{Commit, State, CrashLeaves, CrashLeavesOf, opened}
use Rattle.model_laws.proofs.Growth.{closed_front}
use Rattle.root_slots.specs.Root.{version_of, count_of}
use Rattle.op_model.specs.Held.{ReplicaHeld}
use Rattle.op_model.specs.Replay.{Kept, edited, merged, settlement, reached, settled_number, Replays}
use Rattle.replica_core.specs.Held.{IsSound}
use Rattle.replica_core.proofs.ReachedLemmas.{contains_tail}
use Rattle.group_commit.specs.Begin.{is_idle}
use Rattle.group_commit.specs.Commit.{IsRootOf, IsLeft}
use Rattle.group_commit.specs.Saved.{Saved}
use Rattle.group_commit.specs.declared.phase.Phase.{Phase}
use Rattle.group_commit.specs.declared.phase.Phase.TheVariants.{Idle, Pages, Close, Sync1, Body, Sync2, Gate, Sync3}
use Rattle.locked_replica.specs.Hub.{Parts, commit_in, commit_of}
use Rattle.locked_replica.proofs.Fits.{Fits, IsFront, IsUnderWay, CommitFits}
use Rattle.locked_replica.specs.Recovery.{HasImageOfFront, is_gated, RecoversWith, RecoversIn, Recovers, IsCrash, HasAtLeast}

-- a front of a causally closed list is closed
closed_take : (n : ℕ) (ops : List Op) → IsCausallyClosed ops → IsCausallyClosed (take n ops)
closed_take n ops closed = closed_front (take n ops) (drop n ops) (rw (take-append-drop n ops) closed)

-- a file with a root that is a front has the front as its image
image_of : (h : ReplicaHeld) (root : Saved) (file : List ℕ) → IsSound h → IsFront h root → IsRootOf root file
    → HasImageOfFront h (version_of root.body) (count_of root.body) file
image_of h root file sound front is =
    record {
      body = root.body;
      bytes = root.stream;
      holds = is.holds;
      spells = record { spells = front.stream; counted = length-take-le (count_of root.body) h.list front.within };
      owner = front.owner;
      made = refl;
      closed = closed_take (count_of root.body) h.list sound.closed;
    }

-- at rest the live root's operations are settled, or those of a commit that is through
recovers_at_rest : (gated : Bool) (h : ReplicaHeld) (live version next : ℕ) (file : List ℕ) → h.settled ≤ live → HasImageOfFront h version live file
    → RecoversIn gated h version (commit_in true h.settled live next) file
recovers_at_rest gated h live version next file settled image = by_test (nat_lt h.settled live) refl
  where
    by_test : (t : Bool) → nat_lt h.settled live ≡ t
        → RecoversIn gated h version (if t then Some (record { count = live; through = true }) else None) file
    by_test true is = image
    by_test false is =
        let same : h.settled ≡ live = grind (arith, nat_tests) in
        rw same image

-- under way the live root's are settled, and those of the next one are the commit's
recovers_settled : (gated : Bool) (h : ReplicaHeld) (current next : Saved) (file : List ℕ) → IsUnderWay h current next
    → HasImageOfFront h (version_of current.body) (count_of current.body) file
    → RecoversIn gated h (version_of current.body) (commit_in false h.settled (count_of current.body) (count_of next.body)) file
recovers_settled true h current next file commit image = inl (rw (commit.settled) image)
recovers_settled false h current next file commit image = rw (commit.settled) image

recovers_next : (h : ReplicaHeld) (current next : Saved) (file : List ℕ) → IsUnderWay h current next
    → HasImageOfFront h (version_of next.body) (count_of next.body) file
    → RecoversIn true h (version_of current.body) (commit_in false h.settled (count_of current.body) (count_of next.body)) file
recovers_next h current next file commit image = inr (rw (sym commit.version) image)

-- what is left has the image of the live root, or in the last phase of the next one
pub recovers : (phase : Phase) (h : ReplicaHeld) (current next : Saved) (file : List ℕ) → IsSound h → IsFront h current → CommitFits (is_idle phase) h current next
    → IsLeft phase current next file
    → RecoversIn (is_gated phase) h (version_of current.body)
    (commit_in (is_idle phase) h.settled (count_of current.body) (count_of next.body)) file
recovers phase h current next file sound live commit left = by_phase phase commit left
  where
    settled : (gated : Bool) → IsUnderWay h current next → IsRootOf current file
        → RecoversIn gated h (version_of current.body) (commit_in false h.settled (count_of current.body) (count_of next.body)) file
    settled gated commit is = recovers_settled gated h current next file commit (image_of h current file sound live is)

    by_phase : (phase : Phase) → CommitFits (is_idle phase) h current next → IsLeft phase current next file
        → RecoversIn (is_gated phase) h (version_of current.body)
        (commit_in (is_idle phase) h.settled (count_of current.body) (count_of next.body)) file
    by_phase Sync3 commit (inl is) = settled true commit is
    by_phase Sync3 commit (inr is) = recovers_next h current next file commit (image_of h next file sound commit.front is)
    by_phase Idle commit is =
        recovers_at_rest false h (count_of current.body) (version_of current.body) (count_of next.body) file commit.settled
        (image_of h current file sound live is)
    by_phase (Pages k) commit is = settled false commit is
    by_phase Close commit is = settled false commit is
    by_phase Sync1 commit is = settled false commit is
    by_phase Body commit is = settled false commit is
    by_phase Sync2 commit is = settled false commit is
    by_phase Gate commit is = settled false commit is

-- the operations of a commit are in the list, all that are settled are among them, and a step ended with the last one
abbrev IsWithin : ReplicaHeld → Option Commit → Type 0
IsWithin h None = Unit {0}
IsWithin h (Some c) = (h.settled ≤ c.count) × (c.count ≤ length h.list) × Contains (reached h.opened h.steps) c.count

commit_within : (idle : Bool) (h : ReplicaHeld) (current next : Saved) → IsFront h current → CommitFits idle h current next
    → IsWithin h (commit_in idle h.settled (count_of current.body) (count_of next.body))
commit_within true h current next live commit = by_test (nat_lt h.settled (count_of current.body)) refl
  where
    by_test : (t : Bool) → nat_lt h.settled (count_of current.body) ≡ t
        → IsWithin h (if t then Some (record { count = count_of current.body; through = true }) else None)
    by_test true is =
        let less : h.settled < count_of current.body = grind (arith, nat_tests) in (commit.settled, live.within, (commit.through less).reached)
    by_test false is = tt
commit_within false h current next live commit =
    let more = commit.owed.more in (omega (arith, more), commit.front.within, commit.owed.reached)

-- a step ended with the last settled operation, or the opening
settled_of_steps : (replica : ℕ) (opened list : List Op) (steps : List Kept) → Replays replica opened steps list
    → Contains (reached (length opened) steps) (settled_number (length opened) steps)
settled_of_steps replica opened list [] fits = (0, omega arith, refl)
settled_of_steps replica opened list (edited session e first count ∷ steps) fits =
    contains_tail (first + count) (settled_number (length opened) steps) (reached (length opened) steps)
    (settled_of_steps replica opened (take first list) steps fits.2)
settled_of_steps replica opened list (merged peer index ∷ steps) fits =
    contains_tail (index + 1) (settled_number (length opened) steps) (reached (length opened) steps)
    (settled_of_steps replica opened (take index list) steps fits.4)
settled_of_steps replica opened list (settlement n ∷ steps) fits = fits.0

settled_is_reached : (h : ReplicaHeld) → IsSound h → Contains (reached h.opened h.steps) h.settled
settled_is_reached h sound =
    let long : length (take h.opened h.list) ≡ h.opened = length-take-le h.opened h.list sound.opened in
    rw sound.number (rw long at (settled_of_steps h.replica (take h.opened h.list) h.list h.steps sound.replays))

settled_within : (idle : Bool) (h : ReplicaHeld) (current next : Saved) → IsFront h current → CommitFits idle h current next → h.settled ≤ length h.list
settled_within true h current next live commit = let within = live.within in let settled = commit.settled in omega (arith, within, settled)
settled_within false h current next live commit = let within = live.within in let settled = commit.settled in omega (arith, within, settled)

-- so the image has at least the settled operations
at_least : (gated : Bool) (h : ReplicaHeld) (version : ℕ) (commit : Option Commit) (file : List ℕ) → h.settled ≤ length h.list
    → Contains (reached h.opened h.steps) h.settled → IsWithin h commit → RecoversIn gated h version commit file → HasAtLeast h.settled h file
at_least gated h version None file settled ended within image =
    record { version = version; count = h.settled; enough = omega arith; within = settled; whole = ended; image = image }
at_least gated h version (Some c) file settled ended within image = by_kind c.through gated image
  where
    of_commit : (v : ℕ) → HasImageOfFront h v c.count file → HasAtLeast h.settled h file
    of_commit v image = record { version = v; count = c.count; enough = within.0; within = within.1; whole = within.2; image = image }

    of_settled : HasImageOfFront h version h.settled file → HasAtLeast h.settled h file
    of_settled image = record { version = version; count = h.settled; enough = omega arith; within = settled; whole = ended; image = image }

    by_kind : (through gated : Bool) → RecoversWith through gated h version c.count file → HasAtLeast h.settled h file
    by_kind true gated image = of_commit version image
    by_kind false true (inl image) = of_settled image
    by_kind false true (inr image) = of_commit (version + 1) image
    by_kind false false image = of_settled image

-- every survivor has them
pub survivor_has : {D : Type 0} (facts : Ghosts D) (hub : Parts D) (file : List ℕ) → Fits facts hub → facts.tells hub.store.disk → facts.survives hub.store.disk file
    → Recovers hub file
survivor_has facts hub file fits told survives =
    recovers hub.store.phase hub.replica hub.store.current hub.store.next file fits.sound fits.live fits.commit (fits.left told file survives)

recovered_has : {D : Type 0} (facts : Ghosts D) (hub : Parts D) (file : List ℕ) → Fits facts hub → Recovers hub file → HasAtLeast hub.replica.settled hub.replica file
recovered_has facts hub file fits recovered =
    at_least (is_gated hub.store.phase) hub.replica (version_of hub.store.current.body) (commit_of hub.replica hub.store) file
    (settled_within (is_idle hub.store.phase) hub.replica hub.store.current hub.store.next fits.live fits.commit)
    (settled_is_reached hub.replica fits.sound)
    (commit_within (is_idle hub.store.phase) hub.replica hub.store.current hub.store.next fits.live fits.commit) recovered

pub survivor_has_settled : {D : Type 0} (facts : Ghosts D) (hub : Parts D) (file : List ℕ) → Fits facts hub → facts.tells hub.store.disk
    → facts.survives hub.store.disk file → HasAtLeast hub.replica.settled hub.replica file
survivor_has_settled facts hub file fits told survives = recovered_has facts hub file fits (survivor_has facts hub file fits told survives)

-- the machine's state with this commit and version
abbrev state_at : ReplicaHeld → Bool → Bool → ℕ → Option Commit → State
state_at h failed failure_told version commit = record {
  held = h;
  version = version;
  failed = failed;
  failure_told = failure_told;
  commit = commit;
}

-- what is opened from a file with such an image is what the machine's crash leaves
opened_from : (gated : Bool) (h : ReplicaHeld) (failed failure_told : Bool) (version : ℕ) (commit : Option Commit) (file : List ℕ)
    → RecoversIn gated h version commit file
    → (v n : ℕ) × HasImageOfFront h v n file × CrashLeaves (state_at h failed failure_told version commit) (opened h.replica (take n h.list) v)
opened_from gated h failed failure_told version None file image = (version, h.settled, image, refl)
opened_from gated h failed failure_told version (Some c) file image = by_kind c.through gated image
  where
    by_kind : (through gated : Bool) → RecoversWith through gated h version c.count file
        → (v n : ℕ) × HasImageOfFront h v n file
        × CrashLeavesOf (state_at h failed failure_told version (Some c)) (record { count = c.count; through = through }) (opened h.replica (take n h.list) v)
    by_kind true gated image = (version, c.count, image, refl)
    by_kind false true (inl image) = (version, h.settled, image, inl refl)
    by_kind false true (inr image) = (version + 1, c.count, image, inr refl)
    by_kind false false image = (version, h.settled, image, inl refl)

pub crash_recovered : {D : Type 0} (hub : Parts D) (file : List ℕ) → Recovers hub file → IsCrash hub file
crash_recovered hub file recovered =
    let from = opened_from (is_gated hub.store.phase) hub.replica hub.store.failed hub.failure_told (version_of hub.store.current.body)
    (commit_of hub.replica hub.store) file recovered in
    record { version = from.0; count = from.1; image = from.2; leaves = from.3 }

-- what the store says of a file that a crash leaves is so of the hub
pub left_of : {D : Type 0} (facts : Ghosts D) (hub : Parts D) (file : List ℕ) → Fits facts hub → IsLeft hub.store.phase hub.store.current hub.store.next file
    → Recovers hub file
left_of facts hub file fits is = recovers hub.store.phase hub.replica hub.store.current hub.store.next file fits.sound fits.live fits.commit is

pub left_has : {D : Type 0} (facts : Ghosts D) (hub : Parts D) (file : List ℕ) → Fits facts hub → Recovers hub file
    → HasAtLeast hub.replica.settled hub.replica file
left_has facts hub file fits left = recovered_has facts hub file fits left

pub survivor_is_left : {D : Type 0} (facts : Ghosts D) (hub : Parts D) (file : List ℕ) → Fits facts hub → facts.tells hub.store.disk
    → facts.survives hub.store.disk file → Recovers hub file
survivor_is_left facts hub file fits told survives = left_of facts hub file fits (fits.left told file survives)
