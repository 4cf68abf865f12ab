-- What a locked part keeps is kept by each of its calls.
use Rattle.std.proofs.Common.{◌≡◌, ℕ, ◌+◌, ◌<◌, ◌≤◌, Bool, true, false, nat_lt, nat_le, length, refl, sym, ap, ◌∙◌, arith}
use Rattle.std.proofs.Common.{length-append}
use Rattle.std.specs.Prelude.{if◌then◌else◌, Some, None}
use Rattle.std.proofs.lemmas.Bool.{leb-true}
use Rattle.std.proofs.lemmas.Bool.Decides.{nat_tests}
use Rattle.op_model.specs.declared.op.Op.{Op}
use Rattle.op_model.specs.Actions.{refusal_of, Asked}
use Rattle.op_model.specs.Causality.{IsCausallyClosed}
use Rattle.op_model.specs.Machine.{taken_in, has_record_room, edit_length}
use Rattle.op_model.specs.Records.{record_length}
use Rattle.op_model.specs.Held.{with_edit, with_merge, ReplicaHeld}
use Rattle.op_model.specs.Waiting.{waiting_length}
use Rattle.replica_core.specs.Held.{IsSound}
use Rattle.replica_core.specs.Steps.{places_left}
use Rattle.replica_core.proofs.ReachedLemmas.{length_is_reached}
use Rattle.hub_parts.specs.Locked.{commit_of, state_of, Keeps, LockedHeld}
use Rattle.hub_parts.proofs.Growing.{Grows, grows_edit, grows_merge, owed_grown, due_behind_all, due_behind_some}
use Rattle.hub_parts.proofs.PuttingLemmas.{action_within}
use Rattle.hub_parts.proofs.WaitingLengths.{none_waiting, waits_edit, waits_merge}

-- what is kept is kept where the list grows, if there is room
pub keeps_grown : (l : LockedHeld) (next : ReplicaHeld) (g : Grows l.replica next) → Keeps l
    → waiting_length l.begun next.steps next.list ≤ 1048576 → Keeps (record l { replica = next })
keeps_grown l next g k room =
    let settled = k.settled in
    let within = k.within in
    record {
      settled = omega (arith, g.settled, settled);
      within = omega (arith, ap length g.list, length-append l.replica.list g.more, within);
      commit = λ less. owed_grown l.replica next l.begun g (k.commit (omega (arith, g.settled, less)));
      places = λ same.
          let was = k.places (omega (arith, g.settled, same)) in
          let now = g.places l.begun 0 (omega arith) (omega (arith, was)) in
          omega (arith, now);
      pending = room;
    }

-- the taken operations are the settled ones and those of the commit
pub taken_is_begun : (l : LockedHeld) → l.replica.settled ≤ l.begun → taken_in (commit_of l) l.replica.settled ≡ l.begun
taken_is_begun l within = by_test (nat_lt l.replica.settled l.begun) refl
  where
    by_test : (t : Bool) → nat_lt l.replica.settled l.begun ≡ t
        → taken_in (if t then Some (record { count = l.begun; through = false }) else None) l.replica.settled ≡ l.begun
    by_test true is = refl
    by_test false is = grind (arith, nat_tests)

-- what the machine has room for, the part has
pub room_is : (l : LockedHeld) (bytes : ℕ) → Keeps l
    → has_record_room (state_of l) bytes ≡ nat_le (waiting_length l.begun l.replica.steps l.replica.list + bytes) 1048576
room_is l bytes k = ap (λ n. nat_le (waiting_length n l.replica.steps l.replica.list + bytes) 1048576) (taken_is_begun l k.settled)

room_says : (l : LockedHeld) (bytes : ℕ) → Keeps l → has_record_room (state_of l) bytes ≡ true
    → waiting_length l.begun l.replica.steps l.replica.list + bytes ≤ 1048576
room_says l bytes k room = leb-true _ _ (sym (room_is l bytes k) ∙ room)

-- an edit that has room
pub keeps_edit : (l : LockedHeld) (next : ReplicaHeld) (session : ℕ) (e : Asked) → Keeps l
    → IsCausallyClosed l.replica.list → refusal_of l.replica.list l.replica.replica e ≡ None
    → has_record_room (state_of l) (edit_length l.replica e) ≡ true → next ≡ with_edit l.replica session e
    → Keeps (record l { replica = next })
keeps_edit l next session e k closed due room is =
    let room_for = room_says l (edit_length l.replica e) k room in
    let most = action_within l.replica.list l.replica.replica e closed due in
    rw is (keeps_grown l (with_edit l.replica session e) (grows_edit l.replica session e) k
    (omega (arith, room_for, most, waits_edit l.replica session e l.begun k.within)))

-- a merge that has room
pub keeps_merge : (l : LockedHeld) (next : ReplicaHeld) (peer : ℕ) (op : Op) → Keeps l
    → has_record_room (state_of l) (record_length op) ≡ true → next ≡ with_merge l.replica peer op
    → Keeps (record l { replica = next })
keeps_merge l next peer op k room is =
    let room_for = room_says l (record_length op) k room in
    rw is (keeps_grown l (with_merge l.replica peer op) (grows_merge l.replica peer op) k
    (omega (arith, room_for, waits_merge l.replica peer op l.begun k.within)))

-- where something waits or is in a commit, there is a place for a settlement
place_left : (l : LockedHeld) → Keeps l → l.replica.settled < length l.replica.list → 1 ≤ places_left l.replica.steps
place_left l k less = by_test (nat_lt l.replica.settled l.begun) refl
  where
    by_test : (t : Bool) → nat_lt l.replica.settled l.begun ≡ t → 1 ≤ places_left l.replica.steps
    by_test true is =
        let under : l.replica.settled < l.begun = grind (arith, nat_tests) in
        let owed = k.commit under in
        let places = owed.places in
        omega (arith, places)
    by_test false is =
        let settled = k.settled in
        let same : l.replica.settled ≡ l.begun = grind (arith, nat_tests) in
        let one = due_behind_some l.replica l.begun (omega (arith, same, less)) in
        let places = k.places same in
        omega (arith, one, places)

-- all operations taken
pub keeps_taken : (l : LockedHeld) → IsSound l.replica → Keeps l → Keeps (record l { begun = length l.replica.list })
keeps_taken l sound k =
    let settled = sound.settled in
    let none = due_behind_all l.replica in
    record {
      settled = settled;
      within = omega arith;
      commit = λ less.
          let one = place_left l k less in
          record { more = less; reached = length_is_reached l.replica sound; places = omega (arith, none, one) };
      places = λ same. omega (arith, none);
      pending = omega (arith, none_waiting (length l.replica.list) l.replica.steps l.replica.list (omega arith));
    }
