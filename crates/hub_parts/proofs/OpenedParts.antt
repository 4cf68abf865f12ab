-- The two parts right after opening.
use Rattle.std.proofs.Common.{◌≡◌, ℕ, ◌≤◌, Bool, false, List, length, take, sym, ap, ◌∙◌, arith, Result, Ok, Err}
use Rattle.std.specs.Prelude.{OnOk}
use Rattle.std.specs.Result.{is_err}
use Rattle.std.proofs.lemmas.Bool.{le-ltb}
use Rattle.std.proofs.lemmas.List.{take_all}
use Rattle.disk_trait.specs.declared.facts.DiskFacts.{Ghosts}
use Rattle.op_model.specs.declared.op.Op.{Op}
use Rattle.root_slots.specs.Root.{count_of}
use Rattle.op_model.specs.Held.{opened_with, ReplicaHeld}
use Rattle.group_commit.specs.Held.{StoreHeld}
use Rattle.group_commit.specs.Loading.{IsHistory}
use Rattle.group_commit.specs.declared.phase.Phase.TheVariants.{Idle}
use Rattle.hub_parts.specs.Flusher.{IsFlusher}
use Rattle.hub_parts.specs.Locked.{due_behind, Keeps, LockedHeld}
use Rattle.hub_parts.specs.Fitting.{FitTogether, side_of}
use Rattle.hub_parts.proofs.FlusherSteps.{CrashLeaves}
use Rattle.hub_parts.proofs.WaitingLengths.{none_waiting}

-- a locked part to which no failure is told
abbrev pub first_held : ReplicaHeld → ℕ → LockedHeld
first_held h begun = record { replica = h; begun = begun; failure_told = false }

-- nothing is due right after opening, and nothing waits
pub keeps_opened : (h : ReplicaHeld) (begun : ℕ) → h ≡ opened_with h.replica h.list → begun ≡ length h.list
    → Keeps (record { replica = h; begun = begun; failure_told = false })
keeps_opened h begun opened is =
    let settled : h.settled ≡ length h.list = ap (λ x. x.settled) opened in
    record {
      settled = omega (arith, settled, is);
      within = omega (arith, is);
      commit = λ less. absurd (omega (arith, less, settled, is));
      places = λ same. omega (arith, none);
      pending = omega (arith, none_waiting begun h.steps h.list (omega (arith, is)));
    }
  where
    none : due_behind h begun ≤ 0
    none = rw (is, le-ltb (length h.list) (length h.list) (omega arith)) (omega arith)

-- it is what a replica is right after opening, and all of it is taken
pub opened_so : (h : ReplicaHeld) (begun : ℕ) → h ≡ opened_with h.replica h.list → begun ≡ length h.list
    → first_held h begun ≡ first_held (opened_with h.replica h.list) (length h.list)
opened_so h begun opened is = ap (λ x. first_held x begun) opened ∙ ap (λ n. first_held (opened_with h.replica h.list) n) is

-- the flusher has the whole list, and no commit
pub flusher_opened : {D : Type 0} (facts : Ghosts D) (s : StoreHeld D) (replica : ℕ) (ops list : List Op) → IsHistory s.current replica ops → s.phase ≡ Idle
    → CrashLeaves facts s → list ≡ ops → IsFlusher facts (record { store = s; list = list; due = false })
flusher_opened facts s replica ops list history idle left is =
    let count : count_of s.current.body ≡ length ops = sym history.spelled.some.counted in
    let all : take (count_of s.current.body) ops ≡ ops = take_all (count_of s.current.body) ops (omega (arith, count)) in
    rw is (record {
      live = record {
        within = omega (arith, count);
        stream = rw all history.spelled.some.spells;
      };
      commit = rw idle (record { all = count });
      left = left;
    })

-- the two fit
pub meet_opened : {D : Type 0} (h : ReplicaHeld) (begun : ℕ) (s : StoreHeld D) (list : List Op) → h ≡ opened_with h.replica h.list → begun ≡ length h.list
    → IsHistory s.current h.replica h.list → list ≡ h.list
    → FitTogether (record { replica = h; begun = begun; failure_told = false }) (side_of (record { store = s; list = list; due = false }))
meet_opened h begun s list opened is history same =
    let settled : h.settled ≡ length h.list = ap (λ x. x.settled) opened in
    record {
      owner = sym history.owner;
      both = sym (le-ltb h.settled begun (omega (arith, settled, is)));
      front = same ∙ sym (take_all begun h.list (omega (arith, is)));
      settled = λ none. settled ∙ history.spelled.some.counted;
      through = λ never. absurd (cc);
    }

-- what an answer that is no error says
pub when_ok : {T E : Type 0} (P : Type 0) (answer : Result T E) (failed : Bool) → failed ≡ is_err answer → failed ≡ false → OnOk answer P → P
when_ok P (Ok x) failed is none says = says
when_ok P (Err e) failed is none says = absurd (cc)
