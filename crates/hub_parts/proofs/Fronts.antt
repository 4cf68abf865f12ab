-- A flusher's list with more operations behind it.
use Rattle.std.proofs.Common.{◌≡◌, ℕ, ◌+◌, ◌-◌, ◌<◌, Bool, true, false, List, ◌++◌, Some, Ok}
use Rattle.std.proofs.Common.{length, take, drop, refl, sym, ap, ◌∙◌, arith, length-append, length-drop}
use Rattle.std.proofs.lemmas.List.{take_all, take-append-le}
use Rattle.disk_trait.specs.declared.facts.DiskFacts.{Ghosts}
use Rattle.op_model.specs.declared.op.Op.{Op}
use Rattle.root_slots.specs.Root.{count_of, replica_of, version_of}
use Rattle.group_commit.specs.Begin.{has_room_for, is_idle, begin_due, AreWritten, Begins}
use Rattle.group_commit.specs.Held.{StoreHeld}
use Rattle.group_commit.specs.Moving.{moves}
use Rattle.group_commit.specs.Saved.{Saved}
use Rattle.group_commit.proofs.BeginLemmas.{base_body}
use Rattle.hub_parts.specs.Flusher.{IsFlusher, IsAtRest, HasFront, RestsOrCommits, FlusherHeld}
use Rattle.hub_parts.proofs.BeginLemmas.{begin_is_due}

-- no commit that isn't settled is one whose device calls are all made
pub at_rest : {D : Type 0} (facts : Ghosts D) (s : StoreHeld D) (list : List Op) (due : Bool) → IsFlusher facts (record { store = s; list = list; due = due })
    → due ≡ false → is_idle s.phase ≡ true
at_rest {D} facts s list due kept none = by_test (is_idle s.phase) kept.commit
  where
    by_test : (t : Bool) → RestsOrCommits t (record { store = s; list = list; due = due }) → t ≡ true
    by_test true rest = refl
    by_test false way = let is = way.due in absurd (cc)

-- the answer that is due of the store of a flusher that works, where nothing is under way and there is room
pub due_at_rest : {D : Type 0} (facts : Ghosts D) (f : FlusherHeld D) (s : StoreHeld D) (list : List Op) (due : Bool) (count : ℕ) (records : List ℕ)
    → record { store = s; list = list; due = due } ≡ f → IsFlusher facts (record { store = s; list = list; due = due }) → f.store.failed ≡ false → f.due ≡ false
    → 0 < count → has_room_for f.store.current count (length records) ≡ true
    → begin_due s count (length records) ≡ Ok (Some (count_of f.store.current.body + count))
due_at_rest facts f s list due count records is kept works none some room =
    let store : s ≡ f.store = ap (λ h. h.store) is in
    let idle = at_rest facts s list due kept (ap (λ h. h.due) is ∙ none) in
    begin_is_due s count records (ap (λ t. t.failed) store ∙ works) idle some (ap (λ t. has_room_for t.current count (length records)) store ∙ room)
    ∙ ap (λ t. Ok (Some (count_of t.current.body + count))) store

-- where the device calls are all made, the live root has the whole list
pub whole_list : {D : Type 0} (facts : Ghosts D) (s : StoreHeld D) (list : List Op) (due : Bool) → IsFlusher facts (record { store = s; list = list; due = due })
    → is_idle s.phase ≡ true → count_of s.current.body ≡ length list
whole_list facts s list due kept idle =
    let rest : IsAtRest (record { store = s; list = list; due = due }) = rw idle at kept.commit in
    rest.all

-- a root has a beginning of a longer list
pub front_grows : (list ops : List Op) (root : Saved) → HasFront list root → HasFront (list ++ ops) root
front_grows list ops root front =
    let within = front.within in
    let same : take (count_of root.body) (list ++ ops) ≡ take (count_of root.body) list = take-append-le (count_of root.body) list ops within in
    record {
      within = omega (arith, within, length-append list ops);
      stream = rw same front.stream;
    }

-- how many operations the root of a commit has that begins
begun_count : {D : Type 0} (facts : Ghosts D) (s new : StoreHeld D) (list ops : List Op) (records : List ℕ) → count_of s.current.body ≡ length list → Begins facts s ops records new
    → count_of new.next.body ≡ length (list ++ ops)
begun_count facts s new list ops records all begun =
    begun.begins.follows.count ∙ ap (λ body. count_of body + length ops) (base_body (moves s.current) s.current) ∙ ap (λ n. n + length ops) all ∙ sym (length-append list ops)

-- the root of a commit that begins has all the operations
next_front : {D : Type 0} (facts : Ghosts D) (s new : StoreHeld D) (list ops : List Op) (records : List ℕ) → count_of s.current.body ≡ length list → HasFront list s.current
    → Begins facts s ops records new → HasFront (list ++ ops) new.next
next_front facts s new list ops records all live begun =
    let long = begun_count facts s new list ops records all begun in
    let front : take (count_of s.current.body) list ≡ list = take_all (count_of s.current.body) list (omega (arith, all)) in
    let whole : take (count_of new.next.body) (list ++ ops) ≡ list ++ ops = take_all (count_of new.next.body) (list ++ ops) (omega (arith, long)) in
    record {
      within = omega (arith, long);
      stream =
          rw (whole, begun.begins.follows.format) (begun.spells list (rw front at live.stream));
    }

-- a flusher that began a commit
pub flusher_begun : {D : Type 0} (facts : Ghosts D) (s new : StoreHeld D) (list ops : List Op) (records : List ℕ) (due : Bool)
    → IsFlusher facts (record { store = s; list = list; due = due }) → due ≡ false → Begins facts s ops records new
    → IsFlusher facts (record { store = new; list = list ++ ops; due = true })
flusher_begun facts s new list ops records due kept none begun =
    let all = whole_list facts s list due kept (at_rest facts s list due kept none) in
    record {
      live = rw begun.begins.current (front_grows list ops s.current kept.live);
      commit = rw begun.begins.phase (record {
        due = refl;
        all = begun_count facts s new list ops records all begun;
        front = next_front facts s new list ops records all kept.live begun;
        owner = rw begun.begins.current (begun.begins.follows.replica ∙ ap replica_of (base_body (moves s.current) s.current));
        version = rw begun.begins.current (begun.begins.follows.version ∙ ap (λ body. version_of body + 1) (base_body (moves s.current) s.current));
      });
      left = begun.begins.left;
    }

-- the operations that are put behind it are as many as are written
pub put_written : (list : List Op) (n long : ℕ) (pieces : List ℕ) → long ≡ length list → AreWritten (drop n list) (length (drop n list)) pieces
    → AreWritten (drop n list) (long - n) pieces
put_written list n long pieces counted written = record {
  spells = written.spells;
  counted = length-drop n list ∙ ap (λ k. k - n) (sym counted);
}
