-- Each step of a commit that succeeds makes its part of the writes and syncs that are left.
use Rattle.std.proofs.Common.{◌≡◌, ℕ, ◌+◌, ◌-◌, ◌<◌, ◌≤◌, Bool, true, false, nat_lt, length, refl, ap, arith, if◌then◌else◌}
use Rattle.std.proofs.lemmas.Bool.{ltb-true, ltb-false}
use Rattle.group_commit.specs.Counts.{writes_from, syncs_from, writes_left, syncs_left, IsWriting}
use Rattle.group_commit.specs.Held.{StoreHeld, behind_pages, gone_on}
use Rattle.group_commit.specs.Step.{call_in, writes_of, syncs_of}
use Rattle.group_commit.specs.declared.phase.Phase.{Phase}
use Rattle.group_commit.specs.declared.phase.Phase.TheVariants.{Idle, Pages, Close, Sync1, Body, Sync2, Gate, Sync3}

-- behind k pages
writes_behind : (k pages : ℕ) (stale_open : Bool) → k < pages
    → writes_from (Pages k) pages stale_open ≡ 1 + writes_from (behind_pages (k + 1) pages stale_open) pages stale_open
writes_behind k pages stale_open within = by_tests (nat_lt (k + 1) pages) stale_open (ltb-true (k + 1) pages) (ltb-false (k + 1) pages)
  where
    by_tests : (t stale_open : Bool) → (t ≡ true → k + 1 < pages) → (t ≡ false → pages ≤ k + 1)
        → (pages - k) + (if stale_open then 3 else 2)
        ≡ 1 + writes_from (if t then Pages (k + 1) else if stale_open then Close else Sync1) pages stale_open
    by_tests true true below above = omega (arith, below refl)
    by_tests true false below above = omega (arith, below refl)
    by_tests false true below above = omega (arith, above refl, within)
    by_tests false false below above = omega (arith, above refl, within)

syncs_behind : (k pages : ℕ) (stale_open : Bool) → syncs_from (behind_pages k pages stale_open) ≡ 3
syncs_behind k pages stale_open = by_tests (nat_lt k pages) stale_open
  where
    by_tests : (t stale_open : Bool) → syncs_from (if t then Pages k else if stale_open then Close else Sync1) ≡ 3
    by_tests true stale_open = refl
    by_tests false true = refl
    by_tests false false = refl

at_behind : (k pages : ℕ) (stale_open : Bool) (j : ℕ) → behind_pages k pages stale_open ≡ Pages j → j < pages
at_behind k pages stale_open j is = by_tests (nat_lt k pages) stale_open (ltb-true k pages) is
  where
    by_tests : (t stale_open : Bool) → (t ≡ true → k < pages) → (if t then Pages k else if stale_open then Close else Sync1) ≡ Pages j → j < pages
    by_tests true stale_open below is = let same : k ≡ j = cc in omega (arith, same, below refl)
    by_tests false true below is = absurd cc
    by_tests false false below is = absurd cc

-- the writes that are left, phase by phase
writes_by_phase : {D : Type 0} (phase : Phase) (held : StoreHeld D) (disk : D) → held.phase ≡ phase → IsWriting held
    → writes_from phase (length held.numbers) held.stale_open ≡ writes_of (call_in phase) + writes_left (gone_on phase held disk)
writes_by_phase Idle held disk is under =
    let none : writes_from held.phase (length held.numbers) held.stale_open ≡ 0 = ap (λ p. writes_from p (length held.numbers) held.stale_open) is in
    omega (arith, none)
writes_by_phase (Pages k) held disk is under = writes_behind k (length held.numbers) held.stale_open (under k is)
writes_by_phase Close held disk is under = refl
writes_by_phase Sync1 held disk is under = refl
writes_by_phase Body held disk is under = refl
writes_by_phase Sync2 held disk is under = refl
writes_by_phase Gate held disk is under = refl
writes_by_phase Sync3 held disk is under = refl

syncs_by_phase : {D : Type 0} (phase : Phase) (held : StoreHeld D) (disk : D) → held.phase ≡ phase
    → syncs_from phase ≡ syncs_of (call_in phase) + syncs_left (gone_on phase held disk)
syncs_by_phase Idle held disk is = let none : syncs_from held.phase ≡ 0 = ap syncs_from is in omega (arith, none)
syncs_by_phase (Pages k) held disk is = omega (arith, syncs_behind (k + 1) (length held.numbers) held.stale_open)
syncs_by_phase Close held disk is = refl
syncs_by_phase Sync1 held disk is = refl
syncs_by_phase Body held disk is = refl
syncs_by_phase Sync2 held disk is = refl
syncs_by_phase Gate held disk is = refl
syncs_by_phase Sync3 held disk is = refl

-- a step that succeeds makes its writes and syncs of those that are left
pub writes_fall : {D : Type 0} (held : StoreHeld D) (disk : D) → IsWriting held
    → writes_left held ≡ writes_of (call_in held.phase) + writes_left (gone_on held.phase held disk)
writes_fall held disk under = writes_by_phase held.phase held disk refl under

pub syncs_fall : {D : Type 0} (held : StoreHeld D) (disk : D) → syncs_left held ≡ syncs_of (call_in held.phase) + syncs_left (gone_on held.phase held disk)
syncs_fall held disk = syncs_by_phase held.phase held disk refl

-- and the commit stays under way
pub under_way_on : {D : Type 0} (held : StoreHeld D) (disk : D) → IsWriting held → IsWriting (gone_on held.phase held disk)
under_way_on held disk under = by_phase held.phase refl
  where
    by_phase : (phase : Phase) → held.phase ≡ phase → IsWriting (gone_on phase held disk)
    by_phase Idle is = under
    by_phase (Pages k) is = at_behind (k + 1) (length held.numbers) held.stale_open
    by_phase Close is = λ k at_page. absurd cc
    by_phase Sync1 is = λ k at_page. absurd cc
    by_phase Body is = λ k at_page. absurd cc
    by_phase Sync2 is = λ k at_page. absurd cc
    by_phase Gate is = λ k at_page. absurd cc
    by_phase Sync3 is = λ k at_page. absurd cc

-- at the end nothing is left
pub none_left : {D : Type 0} (held : StoreHeld D) → held.phase ≡ Idle → (writes_left held ≡ 0) × (syncs_left held ≡ 0)
none_left held is = (ap (λ p. writes_from p (length held.numbers) held.stale_open) is, ap syncs_from is)
