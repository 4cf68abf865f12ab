-- Two parts that fit are a hub.
use Rattle.std.proofs.Common.{◌≡◌, ℕ, Bool, true, false, nat_lt, length, take, refl, sym, ap, ◌∙◌, arith, Some, None}
use Rattle.std.specs.Prelude.{if◌then◌else◌}
use Rattle.std.proofs.lemmas.Bool.{ltb-true, ltb-false}
use Rattle.std.proofs.lemmas.List.{length-take-le, take-take}
use Rattle.disk_trait.specs.declared.facts.DiskFacts.{Ghosts}
use Rattle.op_model.specs.Machine.{taken_in}
use Rattle.root_slots.specs.Root.{replica_of, count_of}
use Rattle.group_commit.specs.Begin.{is_idle}
use Rattle.group_commit.specs.Saved.{Saved}
use Rattle.hub_parts.specs.Locked.{IsLocked, has_commit, LockedHeld}
use Rattle.hub_parts.specs.Locked.{commit_of as locked_commit}
use Rattle.hub_parts.specs.Flusher.{RestsOrCommits, HasFront, IsFlusher, FlusherHeld}
use Rattle.hub_parts.specs.Fitting.{FitTogether, side_of}
use Rattle.locked_replica.specs.Hub.{Parts, commit_in, commit_of, committed}
use Rattle.locked_replica.proofs.Fits.{CommitFits, Fits, IsFront}
use Rattle.locked_replica.proofs.PartsOf.{parts}

-- a hub of two parts
abbrev pub hub_of : {D : Type 0} → LockedHeld → FlusherHeld D → Parts D
hub_of l f = parts l.replica f.store l.failure_told

module _ {D : Type 0} (facts : Ghosts D) (l : LockedHeld) (f : FlusherHeld D) (locked : IsLocked l) (flusher : IsFlusher facts f)
    (meet : FitTogether l (side_of f)) where
  -- the flusher's list has as many operations as were taken
  pub taken_all : length f.list ≡ l.begun
  taken_all = ap length meet.front ∙ length-take-le l.begun l.replica.list locked.keeps.within

  -- a root with a front of the flusher's list has one of the replica's
  front_of : (root : Saved) → HasFront f.list root → replica_of root.body ≡ l.replica.replica → IsFront l.replica root
  front_of root front owner =
      let within = front.within in
      let taken = locked.keeps.within in
      let same : take (count_of root.body) f.list ≡ take (count_of root.body) l.replica.list =
      ap (λ ops. take (count_of root.body) ops) meet.front ∙ take-take (count_of root.body) l.begun l.replica.list (omega (arith, within, taken_all)) in
      record {
        owner = owner;
        within = omega (arith, within, taken, taken_all);
        stream = rw same at front.stream;
      }

  commits : (idle : Bool) → is_idle f.store.phase ≡ idle → RestsOrCommits idle f → CommitFits idle l.replica f.store.current f.store.next
  commits true is rest =
      let all : committed f.store ≡ l.begun = rest.all ∙ taken_all in
      let settled = locked.keeps.settled in
      record {
        settled = omega (arith, all, settled);
        through = λ less. rw all (locked.keeps.commit (omega (arith, all, less)));
        places = λ same. rw (same ∙ all) (locked.keeps.places (same ∙ all));
      }
  commits false is way =
      let all : count_of f.store.next.body ≡ l.begun = way.all ∙ taken_all in
      let due : has_commit l ≡ true = sym meet.both ∙ way.due in
      record {
        settled = meet.settled (rw (way.due, is) refl);
        front = front_of f.store.next way.front (way.owner ∙ meet.owner);
        version = way.version;
        owed = rw all (locked.keeps.commit (ltb-true l.replica.settled l.begun due));
      }

  -- what each part keeps and that they fit is what a hub keeps
  pub hub_fits : Fits facts (hub_of l f)
  hub_fits = record {
    sound = locked.sound;
    live = front_of f.store.current flusher.live meet.owner;
    commit = commits (is_idle f.store.phase) refl flusher.commit;
    left = flusher.left;
  }

  -- the operations that are settled or in the commit were taken
  pub taken_begun : taken_in (commit_of l.replica f.store) l.replica.settled ≡ l.begun
  taken_begun = by_phase (is_idle f.store.phase) flusher.commit
    where
      at_rest : (live : ℕ) (some : Bool) → nat_lt l.replica.settled live ≡ some → live ≡ l.begun
          → taken_in (if some then Some (record { count = live; through = true }) else None) l.replica.settled ≡ l.begun
      at_rest live true is all = all
      at_rest live false none all =
          let least = ltb-false l.replica.settled live none in
          let most = locked.keeps.settled in
          omega (arith, least, most, all)

      by_phase : (idle : Bool) → RestsOrCommits idle f
          → taken_in (commit_in idle l.replica.settled (committed f.store) (count_of f.store.next.body)) l.replica.settled ≡ l.begun
      by_phase true rest = at_rest (committed f.store) (nat_lt l.replica.settled (committed f.store)) refl (rest.all ∙ taken_all)
      by_phase false way = way.all ∙ taken_all

-- and so the locked part's state says
pub locked_taken : (l : LockedHeld) → IsLocked l → taken_in (locked_commit l) l.replica.settled ≡ l.begun
locked_taken l locked = by_test (has_commit l) refl
  where
    by_test : (some : Bool) → has_commit l ≡ some
        → taken_in (if some then Some (record { count = l.begun; through = false }) else None) l.replica.settled ≡ l.begun
    by_test true is = refl
    by_test false is =
        let least = ltb-false l.replica.settled l.begun is in
        let most = locked.keeps.settled in
        omega (arith, least, most)
