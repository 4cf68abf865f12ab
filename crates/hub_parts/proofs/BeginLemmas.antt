-- What a store answers to a begin, and what a meeting that begins one answers.
use Rattle.std.proofs.Common.{◌≡◌, ◌≢◌, ℕ, ◌+◌, ◌-◌, ◌<◌, ◌==◌, ◌≤◌, ◌&&◌, nat_lt, nat_le, Bool, true, false}
use Rattle.std.proofs.Common.{List, [], ◌∷◌, ◌++◌, length, drop, refl, sym, ap, ◌∙◌, arith, inl, inr}
use Rattle.std.proofs.Common.{length-drop, Option, Some, Result, Ok, Err}
use Rattle.std.proofs.lemmas.Bool.{lt-ltb, ltb-false}
use Rattle.std.proofs.lemmas.Bool.Decides.{nat_tests}
use Rattle.std.proofs.lemmas.List.{take-append-drop, take_all}
use Rattle.disk_trait.specs.declared.facts.DiskFacts.{Ghosts}
use Rattle.op_model.specs.declared.op.Op.{Op}
use Rattle.op_model.specs.Records.{stream_length}
use Rattle.root_slots.specs.Root.{version_of, count_of}
use Rattle.piece_codec.proofs.StreamLaws.{no_longer}
use Rattle.group_commit.specs.Begin.{has_room, has_room_for, is_idle, is_none, begin_due, AreWritten, Begins, IsAnswer}
use Rattle.group_commit.specs.Plan.{newest}
use Rattle.group_commit.specs.Held.{StoreHeld}
use Rattle.group_commit.specs.Saved.{Saved}
use Rattle.group_commit.specs.declared.error.StoreError.{StoreError}
use Rattle.group_commit.specs.declared.error.StoreError.TheVariants.{Memory, Limit}
use Rattle.hub_parts.specs.Flusher.{FlusherHeld}
use Rattle.hub_parts.specs.Locked.{has_commit, IsLocked, LockedHeld}
use Rattle.hub_parts.specs.Fitting.{FitTogether, side_of}
use Rattle.hub_parts.specs.Meeting.{pending, due_without, IsMet}
use Rattle.hub_parts.specs.declared.met.Met.TheVariants.{Begun}

-- a list of some operations isn't empty
pub some_ops : (ops : List Op) → 0 < length ops → is_none ops ≡ false
some_ops [] some = absurd (omega (arith, some))
some_ops (op ∷ ops) some = refl

-- and the other way round
pub some_long : (ops : List Op) → is_none ops ≡ false → 0 < length ops
some_long [] some = absurd (cc)
some_long (op ∷ ops) some = omega arith

-- the answer that is due of a store with room
pub begin_is_due : {D : Type 0} (s : StoreHeld D) (count : ℕ) (records : List ℕ) → s.failed ≡ false
    → is_idle s.phase ≡ true → 0 < count → has_room_for s.current count (length records) ≡ true
    → begin_due s count (length records) ≡ Ok (Some (count_of s.current.body + count))
begin_is_due s count records works idle more room = rw (works, idle, some count more, room) refl
  where
    some : (n : ℕ) → 0 < n → (n == 0) ≡ false
    some n more = grind (arith, nat_tests)

-- where operations have room, one by one, pieces have that spell them
pub room_within : (current : Saved) (ops : List Op) (count : ℕ) (pieces : List ℕ) → AreWritten ops count pieces → has_room current ops ≡ true
    → has_room_for current count (length pieces) ≡ true
room_within current ops count pieces written room =
    fewer (nat_lt (version_of current.body) 18446744073709551615 && nat_le (count_of current.body + count) 16777216) (length current.stream) (stream_length ops) (length pieces)
    (no_longer newest ops pieces written.spells) (rw written.counted at room)
  where
    fewer : (b : Bool) (n more less : ℕ) → less ≤ more → (b && nat_le (n + more) 1073741824) ≡ true → (b && nat_le (n + less) 1073741824) ≡ true
    fewer b n more less within room = grind (arith, nat_tests)

-- a begin with room is refused when out of memory alone
pub refused_so : (due : Result (Option ℕ) StoreError) (n : ℕ) (error : StoreError) → due ≡ Ok (Some n) → IsAnswer due (Err error) → error ≡ Memory
refused_so due n error is (inl same) = absurd (cc)
refused_so due n error is (inr memory) = let same = memory.0 in cc

-- what a meeting hands over is what waits
pub handed_over : (l : LockedHeld) (list : List Op) (n : ℕ) → list ≡ l.replica.list → n ≡ l.begun → drop n list ≡ pending l
handed_over l list n same begun = rw (same, begun) refl

-- and there is so much of it
pub handed_count : (l : LockedHeld) (list : List Op) (n long : ℕ) → list ≡ l.replica.list → n ≡ l.begun → long ≡ length list → long - n ≡ length (pending l)
handed_count l list n long same begun counted = rw (counted, same, begun) (sym (length-drop l.begun l.replica.list))

-- something waits, and there is room for it or not
pub record IsTested {D : Type 0} (l : LockedHeld) (f : FlusherHeld D) (has : Bool) : Type 0 where
  pub some : is_none (pending l) ≡ false
  pub room : has_room f.store.current (pending l) ≡ has

-- the tests of a begin say so
pub tested : {D : Type 0} (l : LockedHeld) (f : FlusherHeld D) (s : StoreHeld D) (list : List Op) (due : Bool) (count bytes : ℕ) (has room : Bool)
    → record { store = s; list = list; due = due } ≡ f → count ≡ length (pending l) → bytes ≡ stream_length (pending l) → count ≢ 0
    → has ≡ has_room_for s.current count bytes → has ≡ room → IsTested l f room
tested l f s list due count bytes has room is counted long more has_is is_room =
    let some : 0 < length (pending l) = omega (arith, counted, more) in
    record {
      some = some_ops (pending l) some;
      room = rw (counted, long) at (ap (λ h. has_room_for h.store.current count bytes) (sym is) ∙ sym has_is ∙ is_room);
    }

-- the answer that is due where there is no commit and room for one
pub met_due : {D : Type 0} (l : LockedHeld) (f : FlusherHeld D) → is_none (pending l) ≡ false → has_room f.store.current (pending l) ≡ true
    → due_without l f ≡ Ok (Begun (count_of f.store.current.body + length (pending l)))
met_due l f some room = rw (some, room) refl

-- a commit that began is the one that was due
pub met_begun : {D : Type 0} (l : LockedHeld) (f : FlusherHeld D) (n : ℕ) → IsTested l f true
    → n ≡ count_of f.store.current.body + length (pending l) → IsMet (due_without l f) (Ok (Begun n))
met_begun l f n test is = inl (sym (met_due l f test.some test.room ∙ ap (λ k. Ok (Begun k)) (sym is)))

-- out of memory may stand in its place
pub met_memory : {D : Type 0} (l : LockedHeld) (f : FlusherHeld D) (error : StoreError) → IsTested l f true → error ≡ Memory
    → IsMet (due_without l f) (Err error)
met_memory l f error test is = rw (met_due l f test.some test.room) (inr (ap Err is, tt))

-- where there is no room, the limit is due
pub met_limit : {D : Type 0} (l : LockedHeld) (f : FlusherHeld D) → IsTested l f false → IsMet (due_without l f) (Err Limit)
met_limit l f test = inl (rw (test.some, test.room) refl)

-- two parts that fit, behind a begin
pub meet_begun : {D : Type 0} (facts : Ghosts D) (l : LockedHeld) (s new : StoreHeld D) (list more : List Op) (records : List ℕ) (due due' : Bool) → IsLocked l → has_commit l ≡ false → due ≡ false
    → is_none (pending l) ≡ false → Begins facts s (pending l) records new → more ≡ list ++ pending l → due' ≡ true
    → FitTogether l (side_of (record { store = s; list = list; due = due }))
    → FitTogether (record l { begun = length l.replica.list }) (side_of (record { store = new; list = more; due = due' }))
meet_begun facts l s new list more records due due' locked none rests some begun is begins meet =
    let settled = locked.keeps.settled in
    let long = some_long (pending l) some in
    let less : l.replica.settled < length l.replica.list = let same = ltb-false l.replica.settled l.begun none in omega (arith, same, settled, long, length-drop l.begun l.replica.list) in
    record {
      owner = rw begun.begins.current meet.owner;
      both = begins ∙ sym (lt-ltb l.replica.settled (length l.replica.list) less);
      front =
          is ∙ ap (λ xs. xs ++ pending l) meet.front ∙ take-append-drop l.begun l.replica.list
          ∙ sym (take_all (length l.replica.list) l.replica.list (omega arith));
      settled = λ other. rw begun.begins.current (meet.settled (rw rests refl));
      through = λ way. let never = rw (begins, begun.begins.phase) at way in absurd (cc);
    }
