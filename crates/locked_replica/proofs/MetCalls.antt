-- A begin and a settlement of a hub are meetings of its two parts.
use Rattle.std.proofs.Common.{◌≡◌, ◌≢◌, ◌⊎◌, ℕ, ◌<◌, Bool, true, false, not, ◌&&◌, nat_lt, List, length, drop, refl, sym, ap, ◌∙◌, subst, arith}
use Rattle.std.proofs.Common.{inl, inr, Option, Some, None, Result, Ok, Err}
use Rattle.std.specs.Prelude.{if◌then◌else◌, is_some}
use Rattle.std.proofs.lemmas.Bool.{ltb-true, ltb-false}
use Rattle.disk_trait.specs.Calls.{IsLawful}
use Rattle.disk_trait.specs.declared.facts.DiskFacts.{Ghosts}
use Rattle.op_model.specs.Machine.{Answer, begin, begun, nothing_new, settle, refused, settled_to, Commit}
use Rattle.op_model.specs.Records.{stream_length}
use Rattle.root_slots.specs.Root.{count_of}
use Rattle.op_model.specs.Held.{with_settled}
use Rattle.group_commit.specs.Begin.{begin_due, has_room, is_idle, is_none, Begins, IsAnswer}
use Rattle.group_commit.specs.Errors.{number_of}
use Rattle.group_commit.specs.declared.error.StoreError.{StoreError}
use Rattle.group_commit.specs.declared.error.StoreError.TheVariants.{Limit, Failed}
use Rattle.hub_parts.specs.Locked.{has_commit, IsLocked, LockedHeld}
use Rattle.hub_parts.specs.Flusher.{RestsOrCommits, IsAtRest, IsFlusher, FlusherHeld}
use Rattle.hub_parts.specs.Fitting.{FitTogether, side_of}
use Rattle.hub_parts.specs.Meeting.{differ, due_without, meeting_due, pending, IsMet, LeavesBoth, Meets}
use Rattle.hub_parts.specs.declared.met.Met.{Met}
use Rattle.hub_parts.specs.declared.met.Met.TheVariants.{Begun, Settled, Nothing}
use Rattle.locked_replica.specs.Calls.{IsCall}
use Rattle.locked_replica.specs.Hub.{commit_in, commit_of, committed, is_through}
use Rattle.locked_replica.proofs.Fits.{Fits}
use Rattle.locked_replica.proofs.BeginAnswers.{begin_made, none_is}
use Rattle.locked_replica.proofs.Beginning.{begin_busy, begin_failed}
use Rattle.locked_replica.proofs.PartsFit.{hub_fits, hub_of, taken_all}
use Rattle.locked_replica.proofs.PartsOf.{parts}
use Rattle.locked_replica.proofs.Settling.{settle_failed, settle_made}
use Rattle.locked_replica.proofs.StateLemmas.{answer_due, due_by}

-- a meeting's answer as that of a begin
abbrev pub as_begun : Result Met StoreError → Result (Option ℕ) StoreError
as_begun (Ok (Begun n)) = Ok (Some n)
as_begun (Ok (Settled n)) = Ok None
as_begun (Ok Nothing) = Ok None
as_begun (Err e) = Err e

-- and as that of a settlement
abbrev pub as_settled : Result Met StoreError → Answer
as_settled (Ok (Begun n)) = begun n
as_settled (Ok (Settled n)) = settled_to n
as_settled (Ok Nothing) = nothing_new
as_settled (Err e) = refused (number_of e)

met_as_begun : (due answer : Result Met StoreError) → IsMet due answer → IsAnswer (as_begun due) (as_begun answer)
met_as_begun due answer (inl same) = inl (ap as_begun same)
met_as_begun (Ok (Begun n)) answer (inr (want, begins)) = inr (ap as_begun want, tt)
met_as_begun (Ok (Settled n)) answer (inr (want, begins)) = absurd begins
met_as_begun (Ok Nothing) answer (inr (want, begins)) = absurd begins
met_as_begun (Err e) answer (inr (want, begins)) = absurd begins

never_differ : (a b : Bool) → a ≡ b → differ a b ≡ false
never_differ true true same = refl
never_differ false false same = refl
never_differ true false same = let never : ⊥ = cc in absurd never
never_differ false true same = let never : ⊥ = cc in absurd never

begun_by : (none room : Bool) (n : ℕ)
    → as_begun (if none then Ok Nothing else if not room then Err Limit else Ok (Begun n)) ≡ due_by true none room n
begun_by true room n = refl
begun_by false true n = refl
begun_by false false n = refl

no_settlement : (none room : Bool) (n m : ℕ) (answer : Result Met StoreError)
    → IsMet (if none then Ok Nothing else if not room then Err Limit else Ok (Begun n)) answer → answer ≡ Ok (Settled m) → ⊥
no_settlement true room n m answer (inl same) is = cc
no_settlement false true n m answer (inl same) is = cc
no_settlement false false n m answer (inl same) is = cc
no_settlement none room n m answer (inr (want, begins)) is = cc

settled_alone : (n : ℕ) (answer : Result Met StoreError) → IsMet (Ok (Settled n)) answer → answer ≡ Ok (Settled n)
settled_alone n answer (inl same) = same
settled_alone n answer (inr (want, begins)) = absurd begins

failed_alone : (e : StoreError) (answer : Result Met StoreError) → IsMet (Err e) answer → answer ≡ Err e
failed_alone e answer (inl same) = same
failed_alone e answer (inr (want, begins)) = absurd begins

-- neither is a begin, nor that nothing waits
pub never_begun : (answer : Result Met StoreError) (n m : ℕ) → answer ≡ Ok (Begun n) → (answer ≡ Err Failed) ⊎ (answer ≡ Ok (Settled m)) → ⊥
never_begun answer n m is (inl other) = cc
never_begun answer n m is (inr other) = cc

pub never_nothing : (answer : Result Met StoreError) (m : ℕ) → answer ≡ Ok Nothing → (answer ≡ Err Failed) ⊎ (answer ≡ Ok (Settled m)) → ⊥
never_nothing answer m is (inl other) = cc
never_nothing answer m is (inr other) = cc

module _ {D : Type 0} (facts : Ghosts D) (l : LockedHeld) (f : FlusherHeld D) (lawful : (disk : D) → facts.tells disk → IsLawful facts disk)
    (locked : IsLocked l) (flusher : IsFlusher facts f) (meet : FitTogether l (side_of f)) where
  -- there is a commit where the flusher has one
  due_is_some : is_some (commit_of l.replica f.store) ≡ f.due
  due_is_some = by_phase (is_idle f.store.phase) flusher.commit
    where
      of_test : (b : Bool) (live : ℕ) → is_some {T = Commit} (if b then Some (record { count = live; through = true }) else None) ≡ b
      of_test true live = refl
      of_test false live = refl

      by_phase : (idle : Bool) → RestsOrCommits idle f
          → is_some (commit_in idle l.replica.settled (committed f.store) (count_of f.store.next.body)) ≡ f.due
      by_phase true rest =
          let all : committed f.store ≡ l.begun = rest.all ∙ taken_all facts l f locked flusher meet in
          of_test (nat_lt l.replica.settled (committed f.store)) (committed f.store) ∙ ap (λ n. nat_lt l.replica.settled n) all ∙ sym meet.both
      by_phase false way = sym way.due

  -- and it is through where no device call of it is left
  pub through_is : (f.due && is_idle f.store.phase) ≡ is_through (hub_of l f)
  through_is = by_phase (is_idle f.store.phase) flusher.commit
    where
      and_true : (b : Bool) → (b && true) ≡ b
      and_true true = refl
      and_true false = refl

      and_false : (b : Bool) → (b && false) ≡ false
      and_false true = refl
      and_false false = refl

      by_phase : (idle : Bool) → RestsOrCommits idle f → (f.due && idle) ≡ (idle && nat_lt l.replica.settled (committed f.store))
      by_phase true rest =
          let all : committed f.store ≡ l.begun = rest.all ∙ taken_all facts l f locked flusher meet in
          and_true f.due ∙ meet.both ∙ ap (λ n. nat_lt l.replica.settled n) (sym all)
      by_phase false way = and_false f.due

  -- where there is none, all that was taken is settled, and no device call is due
  nothing_due : f.due ≡ false → (l.replica.settled ≡ l.begun) × (is_idle f.store.phase ≡ true)
  nothing_due none =
      let least = ltb-false l.replica.settled l.begun (sym meet.both ∙ none) in
      let most = locked.keeps.settled in
      (omega (arith, least, most), by_phase (is_idle f.store.phase) flusher.commit)
    where
      by_phase : (idle : Bool) → RestsOrCommits idle f → idle ≡ true
      by_phase true rest = refl
      by_phase false way = let due = way.due in let never : ⊥ = cc in absurd never

  -- a begin where there is a commit
  pub begin_has : f.store.failed ≡ false → f.due ≡ true → IsCall facts begin (refused 8) (hub_of l f) (hub_of l f)
  begin_has works due =
      begin_busy facts l.replica f.store (λ told. lawful f.store.disk told) (hub_fits facts l f locked flusher meet) works (due_is_some ∙ due)

  -- a meeting behind a failure
  met_failed : (answer : Result Met StoreError) (l' : LockedHeld) (f' : FlusherHeld D) → f.store.failed ≡ true → Meets facts l f answer l' f'
      → (answer ≡ Err Failed) × (hub_of l' f' ≡ parts l.replica f.store true)
  met_failed answer l' f' failed met =
      let is = failed_alone Failed answer (rw failed at met.answer) in
      let refuses = subst (λ a. LeavesBoth facts l f a l' f') is met.leaves in
      let told : l' ≡ record l { failure_told = true } = rw failed at refuses.locked in
      (is, rw (told, refuses.flusher) refl)

  -- a meeting of a begin
  pub begin_met : (answer : Result Met StoreError) (l' : LockedHeld) (f' : FlusherHeld D) → (not f.store.failed && f.due) ≡ false
      → IsLocked l' → IsFlusher facts f' → FitTogether l' (side_of f') → Meets facts l f answer l' f'
      → IsCall facts begin (answer_due (as_begun answer)) (hub_of l f) (hub_of l' f')
  begin_met answer l' f' none locked' flusher' meet' met = by_test f.store.failed refl
    where
      fits : Fits facts (hub_of l f)
      fits = hub_fits facts l f locked flusher meet

      by_test : (failed : Bool) → f.store.failed ≡ failed
          → IsCall facts begin (answer_due (as_begun answer)) (hub_of l f) (hub_of l' f')
      by_test true failed =
          let (is, left) = met_failed answer l' f' failed met in
          rw (is, left) (begin_failed facts l.replica f.store (λ told. lawful f.store.disk told) fits failed)
      by_test false works =
          let rests : f.due ≡ false = rw works at none in
          let (settled, idle) = nothing_due rests in
          let due : meeting_due l f ≡ due_without l f = rw (works, never_differ f.due (has_commit l) meet.both, rests) refl in
          let is_met : IsMet (due_without l f) answer = rw due at met.answer in
          let begin_is : as_begun (due_without l f) ≡ begin_due f.store (length (pending l)) (stream_length (pending l)) =
          rw (works, idle, none_is (pending l)) (begun_by _ _ _) in
          let is_answer : IsAnswer (begin_due f.store (length (drop l.replica.settled l.replica.list)) (stream_length (drop l.replica.settled l.replica.list))) (as_begun answer) =
          rw (settled, sym begin_is) (met_as_begun (due_without l f) answer is_met) in
          let never : (n : ℕ) → answer ≢ Ok (Settled n) = λ n. no_settlement (is_none (pending l)) (has_room f.store.current (pending l)) _ n answer is_met in
          let same = same_parts answer met.leaves never in
          rw same (begin_made facts l.replica f.store f'.store (as_begun answer) (λ told. lawful f.store.disk told) fits
          (rw same at (hub_fits facts l' f' locked' flusher' meet')) works (rw (sym through_is, rests) refl) is_answer
          (begins answer met.leaves) (stays answer met.leaves))
        where
          same_parts : (a : Result Met StoreError) → LeavesBoth facts l f a l' f' → ((n : ℕ) → a ≢ Ok (Settled n))
              → hub_of l' f' ≡ parts l.replica f'.store l.failure_told
          same_parts (Ok (Begun n)) left never = rw left.locked refl
          same_parts (Ok (Settled n)) left never = absurd (never n refl)
          same_parts (Ok Nothing) left never = rw left.0 refl
          same_parts (Err e) left never = let stays : l' ≡ l = rw works at left.locked in rw stays refl

          begins : (a : Result Met StoreError) → LeavesBoth facts l f a l' f' → (n : ℕ) → as_begun a ≡ Ok (Some n)
              → (records : List ℕ) × Begins facts f.store (drop l.replica.settled l.replica.list) records f'.store
          begins (Ok (Begun m)) left n is = (left.records, rw (nothing_due (rw works at none)).0 left.begins)
          begins (Ok (Settled m)) left n is = let never : ⊥ = cc in absurd never
          begins (Ok Nothing) left n is = let never : ⊥ = cc in absurd never
          begins (Err e) left n is = let never : ⊥ = cc in absurd never

          stays : (a : Result Met StoreError) → LeavesBoth facts l f a l' f' → ((n : ℕ) → as_begun a ≢ Ok (Some n)) → f'.store ≡ f.store
          stays (Ok (Begun m)) left other = absurd (other m refl)
          stays (Ok (Settled m)) left other = ap (λ g. g.store) left.flusher
          stays (Ok Nothing) left other = ap (λ g. g.store) left.1
          stays (Err e) left other = ap (λ g. g.store) left.flusher

  -- where a commit is through or the device failed, a meeting settles or says so
  pub settles_alone : (answer : Result Met StoreError) → (not f.store.failed && not (f.due && is_idle f.store.phase)) ≡ false
      → IsMet (meeting_due l f) answer → (answer ≡ Err Failed) ⊎ (answer ≡ Ok (Settled l.begun))
  settles_alone answer none met = by_test f.store.failed refl
    where
      both_true : (a b : Bool) → not (a && b) ≡ false → (a ≡ true) × (b ≡ true)
      both_true true true is = (refl, refl)
      both_true true false is = let never : ⊥ = cc in absurd never
      both_true false b is = let never : ⊥ = cc in absurd never

      by_test : (failed : Bool) → f.store.failed ≡ failed → (answer ≡ Err Failed) ⊎ (answer ≡ Ok (Settled l.begun))
      by_test true failed = inl (failed_alone Failed answer (rw failed at met))
      by_test false works =
          let (due, idle) = both_true f.due (is_idle f.store.phase) (rw works at none) in
          let due_is : meeting_due l f ≡ Ok (Settled l.begun) = rw (works, never_differ f.due (has_commit l) meet.both, due, idle) refl in
          inr (settled_alone l.begun answer (rw due_is at met))

  -- a meeting of a settlement
  pub settle_met : (answer : Result Met StoreError) (l' : LockedHeld) (f' : FlusherHeld D)
      → (not f.store.failed && not (f.due && is_idle f.store.phase)) ≡ false
      → IsLocked l' → IsFlusher facts f' → FitTogether l' (side_of f') → Meets facts l f answer l' f'
      → IsCall facts settle (as_settled answer) (hub_of l f) (hub_of l' f')
  settle_met answer l' f' none locked' flusher' meet' met = by_test f.store.failed refl
    where
      fits : Fits facts (hub_of l f)
      fits = hub_fits facts l f locked flusher meet

      both_true : (a b : Bool) → not (a && b) ≡ false → (a ≡ true) × (b ≡ true)
      both_true true true is = (refl, refl)
      both_true true false is = let never : ⊥ = cc in absurd never
      both_true false b is = let never : ⊥ = cc in absurd never

      by_test : (failed : Bool) → f.store.failed ≡ failed → IsCall facts settle (as_settled answer) (hub_of l f) (hub_of l' f')
      by_test true failed =
          let (is, left) = met_failed answer l' f' failed met in
          rw (is, left) (settle_failed facts l.replica f.store (λ told. lawful f.store.disk told) fits failed)
      by_test false works =
          let (due, idle) = both_true f.due (is_idle f.store.phase) (rw works at none) in
          let due_is : meeting_due l f ≡ Ok (Settled l.begun) = rw (works, never_differ f.due (has_commit l) meet.both, due, idle) refl in
          let is = settled_alone l.begun answer (rw due_is at met.answer) in
          let left = subst (λ a. LeavesBoth facts l f a l' f') is met.leaves in
          let rest : IsAtRest f = rw idle at flusher.commit in
          let all : l.begun ≡ committed f.store = sym (rest.all ∙ taken_all facts l f locked flusher meet) in
          let less : l.replica.settled < committed f.store = rw all at (ltb-true l.replica.settled l.begun (sym meet.both ∙ due)) in
          let same : hub_of l' f' ≡ parts (with_settled l.replica (committed f.store)) f.store l.failure_told = rw (left.locked, left.flusher, all) refl in
          rw (is, same, all) (
          settle_made facts l.replica f.store (λ told. lawful f.store.disk told) fits (rw same at (hub_fits facts l' f' locked' flusher' meet')) works idle less)
