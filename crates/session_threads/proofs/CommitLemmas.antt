-- The machine's steps of a commit that is begun where none is under way.
use Rattle.std.proofs.Common.{◌≡◌, ◌⊎◌, ℕ, ◌≤◌, ◌||◌, Bool, true, false, length, Option, Some, None, refl, sym, ap, ◌∙◌, subst, inl, inr, arith}
use Rattle.std.proofs.lemmas.Bool.Decides.{nat_tests}
use Rattle.std.specs.Prelude.{is_some, nat_le, if◌then◌else◌}
use Rattle.op_model.specs.Machine.{State, Commit, Answer, begun, nothing_new, refused, settled_to}
use Rattle.op_model.specs.Machine.{BeginStep, DeviceStep, SettleStep, settle_answer, IsRefusal, is_under_way, with_failure_told, with_settlement}
use Rattle.group_commit.specs.declared.phase.Phase.{Phase}
use Rattle.group_commit.specs.declared.phase.Phase.TheVariants.{Idle, Pages, Close, Sync1, Body, Sync2, Gate, Sync3}
use Rattle.locked_replica.specs.Steps.{stepped_in}
use Rattle.session_threads.specs.HubCalls.{IsQuiet, IsQuietBy, with_begun}
use Rattle.op_model.specs.Machine.{with_through}

-- ---- a failure

-- a quiet state has told its failure
pub quiet_has_told : (s : State) → IsQuiet s → with_failure_told s ≡ s
quiet_has_told s quiet = ap (λ b. record s { failure_told = b }) (by_device s.failed s.failure_told s.commit quiet)
  where
    by_device : (failed told : Bool) (commit : Option Commit) → IsQuietBy failed told commit → (failed || told) ≡ told
    by_device false told commit quiet = refl
    by_device true told commit quiet = sym quiet

-- and where the device works it has no commit
pub quiet_has_none : (s : State) → IsQuiet s → s.failed ≡ false → s.commit ≡ None
quiet_has_none s quiet works = rw works at quiet

-- ---- begin

-- the answer of a begin by its tests
abbrev begin_by : Bool → Bool → Bool → Bool → ℕ → Answer
begin_by failed busy none late n =
    if failed then refused 44 else if busy then refused 8 else if none then nothing_new else if late then refused 7 else begun n

begun_by : (failed busy none late : Bool) (m n : ℕ) → begin_by failed busy none late m ≡ begun n → (failed ≡ false) × (n ≡ m)
begun_by true busy none late m n e = let never : ⊥ = cc in absurd never
begun_by false true none late m n e = let never : ⊥ = cc in absurd never
begun_by false false true late m n e = let never : ⊥ = cc in absurd never
begun_by false false false true m n e = let never : ⊥ = cc in absurd never
begun_by false false false false m n e = let same : n ≡ m = cc in (refl, same)

none_by : (failed busy none late : Bool) (m : ℕ) → begin_by failed busy none late m ≡ nothing_new → none ≡ true
none_by true busy none late m e = let never : ⊥ = cc in absurd never
none_by false true none late m e = let never : ⊥ = cc in absurd never
none_by false false true late m e = refl
none_by false false false true m e = let never : ⊥ = cc in absurd never
none_by false false false false m e = let never : ⊥ = cc in absurd never

refused_by : (failed busy none late : Bool) (m n : ℕ) → (failed ≡ false → busy ≡ false)
    → IsRefusal n (begin_by failed busy none late m) → (n ≡ 1 → ⊥) → (failed ≡ true) ⊎ (n ≡ 7)
refused_by true busy none late m n quiet due other = inl refl
refused_by false true none late m n quiet due other = let busy : true ≡ false = quiet refl in let never : ⊥ = cc in absurd never
refused_by false false true late m n quiet due other = absurd due
refused_by false false false true m n quiet due other = inr due
refused_by false false false false m n quiet due other = absurd (other due)

pub state_begun : (s next : State) (n : ℕ) → BeginStep s (begun n) next → (s.failed ≡ false) × (next ≡ with_begun s)
state_begun s next n (answer, is) =
    let (works, count) = begun_by s.failed (is_some s.commit) (nat_le (length s.held.list) s.held.settled) _ (length s.held.list) n answer in
    (works, is ∙ ap (λ k. record s { commit = Some (record { count = k; through = false }) }) count)

within : (n m : ℕ) → nat_le n m ≡ true → n ≤ m
within n m test = grind (arith, nat_tests)

pub nothing_new_settled : (s next : State) → BeginStep s nothing_new next → length s.held.list ≤ s.held.settled
nothing_new_settled s next (answer, is) =
    within (length s.held.list) s.held.settled (none_by s.failed (is_some s.commit) (nat_le (length s.held.list) s.held.settled) _ (length s.held.list) answer)

pub begin_refused : (s next : State) (n : ℕ) → IsQuiet s → BeginStep s (refused n) next → (n ≡ 1 → ⊥) → (s.failed ≡ true) ⊎ (n ≡ 7)
begin_refused s next n quiet (due, is) other =
    refused_by s.failed (is_some s.commit) _ _ (length s.held.list) n (λ works. ap is_some (quiet_has_none s quiet works)) due other

-- ---- device calls

-- a call that isn't the last leaves the state
pub state_goes_on : (s next : State) (p : Phase) → is_under_way s.commit ≡ true → (p ≡ Sync3 → ⊥)
    → DeviceStep s (stepped_in p) next → next ≡ s
state_goes_on s next Idle under_way other (works, rests, is) = is
state_goes_on s next (Pages k) under_way other (works, goes, is) = is
state_goes_on s next Close under_way other (works, goes, is) = is
state_goes_on s next Sync1 under_way other (works, goes, is) = is
state_goes_on s next Body under_way other (works, goes, is) = is
state_goes_on s next Sync2 under_way other (works, goes, is) = is
state_goes_on s next Gate under_way other (works, goes, is) = is
state_goes_on s next Sync3 under_way other step = absurd (other refl)

-- a call that fails leaves the state but for that
pub state_fails : (s next : State) (n : ℕ) → s.failed ≡ false → DeviceStep s (refused n) next → next ≡ record s { failed = true }
state_fails s next n works (inl (failed, number, is)) = let never : ⊥ = cc in absurd never
state_fails s next n works (inr (still, goes, number, is)) = is

-- ---- settle

-- the state with all settled that was begun
abbrev all_settled : State → State
all_settled s = with_settlement (with_through (with_begun s)) (length s.held.list)

due : (s : State) → s.failed ≡ false → settle_answer (with_through (with_begun s)) ≡ settled_to (length s.held.list)
due s works = rw works refl

number_of_settled : (n m : ℕ) → settled_to n ≡ settled_to m → n ≡ m
number_of_settled n m e = cc

pub state_settled : (s next : State) (n : ℕ) → s.failed ≡ false → SettleStep (with_through (with_begun s)) (settled_to n) next → next ≡ all_settled s
state_settled s next n works (answer, is) =
    let count : n ≡ length s.held.list = number_of_settled n (length s.held.list) (sym answer ∙ due s works) in
    is ∙ ap (with_settlement (with_through (with_begun s))) count

pub never_refused : (s next : State) (n : ℕ) → s.failed ≡ false → SettleStep (with_through (with_begun s)) (refused n) next → ⊥
never_refused s next n works (answer, is) = let same : settled_to (length s.held.list) ≡ refused n = sym (due s works) ∙ answer in cc

pub settled_is_quiet : (s next : State) → s.failed ≡ false → next ≡ all_settled s → IsQuiet next
settled_is_quiet s next works is = subst IsQuiet (sym is) (rw works refl)

-- a settlement of a device that failed tells it, and settles nothing
pub failure_is_told : (s next : State) (n : ℕ) → s.failed ≡ true → SettleStep s (refused n) next → (next.failed ≡ true) × IsQuiet next
failure_is_told s next n failed (answer, is) =
    (ap (λ t. t.failed) is ∙ failed, subst IsQuiet (sym is) (rw failed refl))

pub settles_nothing : (s next : State) (n : ℕ) → s.failed ≡ true → SettleStep s (settled_to n) next → ⊥
settles_nothing s next n failed (answer, is) = let same : refused 44 ≡ settled_to n = rw failed at answer in cc
