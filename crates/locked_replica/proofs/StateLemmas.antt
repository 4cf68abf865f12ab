-- The machine's state of a hub, by the tests that decide on it.
use Rattle.std.proofs.Common.{◌≡◌, ◌≢◌, ℕ, Bool, true, false, not, ◌&&◌, ◌||◌, nat_lt, nat_le}
use Rattle.std.proofs.Common.{length, refl, sym, ap, ◌∙◌, arith, inl, inr, Option, Some, None}
use Rattle.std.proofs.Common.{Result, Ok, Err}
use Rattle.std.specs.Prelude.{if◌then◌else◌, is_some}
use Rattle.std.proofs.lemmas.Bool.Decides.{nat_tests}
use Rattle.op_model.specs.Machine.{State, Answer, begun, nothing_new, refused, begin_answer, with_failure_told, through_of, is_under_way, BeginStep}
use Rattle.op_model.specs.Held.{ReplicaHeld}
use Rattle.group_commit.specs.Begin.{is_none, has_room, IsAnswer}
use Rattle.group_commit.specs.Errors.{number_of}
use Rattle.group_commit.specs.declared.error.StoreError.{StoreError}
use Rattle.group_commit.specs.declared.error.StoreError.TheVariants.{Memory, Limit, Busy}
use Rattle.locked_replica.specs.Hub.{commit_in}
use Rattle.locked_replica.specs.Steps.{begun_of}

-- the state with these tests and numbers
abbrev pub state_with : ReplicaHeld → Bool → Bool → Bool → ℕ → ℕ → ℕ → State
state_with h failed failure_told idle live next version = record {
  held = h;
  version = version;
  failed = failed;
  failure_told = failure_told;
  commit = commit_in idle h.settled live next;
}

-- a refusal tells nothing where the device works
pub tells_none : (s : State) → s.failed ≡ false → with_failure_told s ≡ s
tells_none s works = ap (λ b. record s { failure_told = b }) same
  where
    same : (s.failed || s.failure_told) ≡ s.failure_told
    same = rw works refl

-- no commit is through where none is at rest with more than is settled
pub not_through : (idle : Bool) (settled live next : ℕ) → (idle && nat_lt settled live) ≡ false → through_of (commit_in idle settled live next) ≡ None
not_through false settled live next resting = refl
not_through true settled live next resting = rw resting refl

-- at rest no device call is due
pub no_call_due : (settled live next : ℕ) → is_under_way (commit_in true settled live next) ≡ false
no_call_due settled live next = by_test (nat_lt settled live)
  where
    by_test : (t : Bool) → is_under_way (if t then Some (record { count = live; through = true }) else None) ≡ false
    by_test true = refl
    by_test false = refl

-- a refusal to begin, or its answer, as the machine has it
abbrev pub answer_due : Result (Option ℕ) StoreError → Answer
answer_due (Ok n) = begun_of n
answer_due (Err e) = refused (number_of e)

-- the machine's answer by its tests, and the store's
abbrev pub begin_by : Bool → Bool → Bool → ℕ → Answer
begin_by busy none late n = if busy then refused 8 else if none then nothing_new else if late then refused 7 else begun n

abbrev pub due_by : Bool → Bool → Bool → ℕ → Result (Option ℕ) StoreError
due_by idle none room n = if not idle then Err Busy else if none then Ok None else if not room then Err Limit else Ok (Some n)

same_answer : (idle none late : Bool) (n : ℕ) → begin_by (not idle) none late n ≡ answer_due (due_by idle none (not late) n)
same_answer false none late n = refl
same_answer true true late n = refl
same_answer true false true n = refl
same_answer true false false n = refl

is_busy : (idle : Bool) (settled live next : ℕ) → (idle && nat_lt settled live) ≡ false → is_some (commit_in idle settled live next) ≡ not idle
is_busy false settled live next resting = refl
is_busy true settled live next resting = rw resting refl

last_version : (version most : ℕ) → nat_le most version ≡ not (nat_lt version most)
last_version version most = grind (arith, nat_tests)

not_not : (b : Bool) → not (not b) ≡ b
not_not true = refl
not_not false = refl

-- the machine's answer to a begin is what is due of the store
pub begin_as_due : (h : ReplicaHeld) (failure_told idle none room : Bool) (live next version n : ℕ) → (idle && nat_lt h.settled live) ≡ false
    → nat_le (length h.list) h.settled ≡ none → (idle ≡ true → room ≡ nat_lt version 18446744073709551615) → (idle ≡ true → n ≡ length h.list)
    → begin_answer (state_with h false failure_told idle live next version) ≡ answer_due (due_by idle none room n)
begin_as_due h failure_told idle none room live next version n resting is_none has_room is_all =
    rw (is_busy idle h.settled live next resting, is_none, last_version version 18446744073709551615) (by_idle idle has_room is_all)
  where
    by_idle : (idle : Bool) → (idle ≡ true → room ≡ nat_lt version 18446744073709551615) → (idle ≡ true → n ≡ length h.list)
        → begin_by (not idle) none (not (nat_lt version 18446744073709551615)) (length h.list) ≡ answer_due (due_by idle none room n)
    by_idle false has_room is_all = refl
    by_idle true has_room is_all =
        rw (has_room refl, is_all refl) (same_answer true none (not (nat_lt version 18446744073709551615)) (length h.list)
        ∙ ap (λ room. answer_due (due_by true none room (length h.list))) (not_not (nat_lt version 18446744073709551615)))

-- a begin with an answer that may be given
pub begin_step : (old new : State) (due answer : Result (Option ℕ) StoreError) → old.failed ≡ false → begin_answer old ≡ answer_due due → IsAnswer due answer
    → ((n : ℕ) → answer ≡ Ok (Some n) → new ≡ record old { commit = Some (record { count = n; through = false }) })
    → (((n : ℕ) → answer ≢ Ok (Some n)) → new ≡ old)
    → BeginStep old (answer_due answer) new
begin_step old new due (Ok (Some n)) works is (inl same) began stays = (is ∙ ap answer_due (sym same), began n refl)
begin_step old new due (Ok (Some n)) works is (inr want) began stays = absurd (cc)
begin_step old new due (Ok None) works is (inl same) began stays = (is ∙ ap answer_due (sym same), stays (λ n resting. absurd (cc)))
begin_step old new due (Ok None) works is (inr want) began stays = absurd (cc)
begin_step old new due (Err e) works is (inl same) began stays =
    (rw (is, sym same) refl, stays (λ n resting. absurd (cc)) ∙ sym (tells_none old works))
begin_step old new (Ok (Some n)) (Err e) works is (inr want) began stays =
    let memory : e ≡ Memory = cc in
    (rw (is, memory) refl, stays (λ n resting. absurd (cc)) ∙ sym (tells_none old works))
begin_step old new (Ok None) (Err e) works is (inr want) began stays = absurd (want.1)
begin_step old new (Err d) (Err e) works is (inr want) began stays = absurd (want.1)

-- a commit begins at rest, with some operations, and has all of them
pub due_begun : (idle none room : Bool) (n m : ℕ) → due_by idle none room n ≡ Ok (Some m) → (idle ≡ true) × (none ≡ false) × (n ≡ m)
due_begun true false true n m is = (refl, refl, cc)
due_begun true false false n m is = absurd (cc)
due_begun true true room n m is = absurd (cc)
due_begun false none room n m is = absurd (cc)

-- an answer with a number is the one that is due
pub was_due : (due answer : Result (Option ℕ) StoreError) (n : ℕ) → answer ≡ Ok (Some n) → IsAnswer due answer → due ≡ Ok (Some n)
was_due due answer n is (inl same) = sym same ∙ is
was_due due answer n is (inr want) = absurd (cc)

-- an answer without a number is none with one
abbrev pub has_number : Result (Option ℕ) StoreError → Bool
has_number (Ok (Some n)) = true
has_number (Ok None) = false
has_number (Err e) = false

pub no_number : (answer : Result (Option ℕ) StoreError) → has_number answer ≡ false → (n : ℕ) → answer ≢ Ok (Some n)
no_number (Ok (Some m)) is n same = absurd (cc)
no_number (Ok None) is n same = absurd (cc)
no_number (Err e) is n same = absurd (cc)
