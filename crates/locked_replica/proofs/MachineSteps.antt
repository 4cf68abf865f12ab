-- What a step of the machine leaves of what a replica holds.
use Rattle.std.proofs.Common.{◌≡◌, ℕ, ◌≤◌, Bool, true, false, nat_lt, List, [], ◌∷◌, ◌++◌, refl, sym, ◌∙◌, arith, append-nil, if◌then◌else◌}
use Rattle.std.proofs.Common.{inl, inr, None, Some, ◌+◌, length}
use Rattle.std.specs.Prelude.{Contains}
use Rattle.std.proofs.lemmas.Bool.{cases_Bool}
use Rattle.std.proofs.lemmas.Bool.Decides.{nat_tests}
use Rattle.op_model.specs.declared.op.Op.{Op}
use Rattle.op_model.specs.Actions.{made_by_action, Asked}
use Rattle.op_model.specs.Held.{ReplicaHeld, with_edit, with_merge}
use Rattle.op_model.specs.Replay.{reached}
use Rattle.op_model.specs.Machine.{State, Ticket, Event, edit, merge, begin, device_step, settle, ack, tell, have, Answer, ticket, applied, known, early}
use Rattle.op_model.specs.Machine.{begun, nothing_new, idle, goes_on, goes_through, settled_to, acknowledged, operations, clock, refused}
use Rattle.op_model.specs.Machine.{holding, through_of, EditStep, MergeStep, BeginStep, DeviceStep, SettleStep, AckStep, TellStep, HaveStep, Step}
use Rattle.group_commit.specs.Begin.{is_idle}
use Rattle.root_slots.specs.Root.{count_of}
use Rattle.locked_replica.specs.Hub.{Parts, commit_in, committed, state_of}
use Rattle.replica_core.proofs.ReachedLemmas.{contains_tail}
use Rattle.locked_replica.specs.Run.{settled_by}

-- it stays the same replica's, the list only grows, the ends of its steps stay, and the settled number is that of the answer
pub record Goes (answer : Answer) (old new : ReplicaHeld) : Type 0 where
  pub owner : new.replica ≡ old.replica
  pub more : List Op
  pub grows : new.list ≡ old.list ++ more
  pub reaches : (n : ℕ) → Contains (reached old.opened old.steps) n → Contains (reached new.opened new.steps) n
  pub settled : new.settled ≡ settled_by old.settled answer

-- with the list as it was
goes_alike : (answer : Answer) (old new : ReplicaHeld) → new.replica ≡ old.replica → new.list ≡ old.list
    → reached new.opened new.steps ≡ reached old.opened old.steps → new.settled ≡ settled_by old.settled answer → Goes answer old new
goes_alike answer old new owner list ends settled = record {
  owner = owner;
  more = [];
  grows = list ∙ sym (append-nil old.list);
  reaches = λ n has. rw ends has;
  settled = settled;
}

-- with one step more, which ends at this length
made_goes : (end : ℕ) (old new : ReplicaHeld) (answer : Answer) (more : List Op) → new.replica ≡ old.replica → new.list ≡ old.list ++ more
    → reached new.opened new.steps ≡ end ∷ reached old.opened old.steps → new.settled ≡ settled_by old.settled answer → Goes answer old new
made_goes end old new answer more owner list ends settled = record {
  owner = owner;
  more = more;
  grows = list;
  reaches = λ n has. rw ends (contains_tail end n (reached old.opened old.steps) has);
  settled = settled;
}

edit_goes : (s : State) (session : ℕ) (e : Asked) (answer : Answer) (next : State) → EditStep s session e answer next → Goes answer s.held next.held
edit_goes s session e (ticket t) next (due, is) =
    elim (cases_Bool t.known) [
      | inl before ↦ let same : next ≡ s = rw before at is in rw same (goes_alike (ticket t) s.held s.held refl refl refl refl)
      | inr new ↦
          let made_is : next ≡ holding s (with_edit s.held session e) = rw new at is in
          rw made_is (made_goes (length s.held.list + length (made_by_action s.held.list s.held.replica e)) s.held (with_edit s.held session e) (ticket t) (made_by_action s.held.list s.held.replica e) refl refl refl refl)
    ]
edit_goes s session e (refused n) next (due, is) = rw is (goes_alike (refused n) s.held s.held refl refl refl refl)
edit_goes s session e _ next step = absurd step

merge_goes : (s : State) (peer : ℕ) (op : Op) (answer : Answer) (next : State) → MergeStep s peer op answer next → Goes answer s.held next.held
merge_goes s peer op applied next (due, is) = rw is (made_goes (length s.held.list + 1) s.held (with_merge s.held peer op) applied (op ∷ []) refl refl refl refl)
merge_goes s peer op known next (due, is) = rw is (goes_alike known s.held s.held refl refl refl refl)
merge_goes s peer op early next (due, is) = rw is (goes_alike early s.held s.held refl refl refl refl)
merge_goes s peer op (refused n) next (due, is) = rw is (goes_alike (refused n) s.held s.held refl refl refl refl)
merge_goes s peer op _ next step = absurd step

begin_goes : (s : State) (answer : Answer) (next : State) → BeginStep s answer next → Goes answer s.held next.held
begin_goes s (begun n) next (due, is) = rw is (goes_alike (begun n) s.held s.held refl refl refl refl)
begin_goes s nothing_new next (due, is) = rw is (goes_alike nothing_new s.held s.held refl refl refl refl)
begin_goes s (refused n) next (due, is) = rw is (goes_alike (refused n) s.held s.held refl refl refl refl)
begin_goes s _ next step = absurd step

device_goes : (s : State) (answer : Answer) (next : State) → DeviceStep s answer next → Goes answer s.held next.held
device_goes s idle next (works, rest, is) = rw is (goes_alike idle s.held s.held refl refl refl refl)
device_goes s goes_on next (works, busy, is) = rw is (goes_alike goes_on s.held s.held refl refl refl refl)
device_goes s goes_through next (works, busy, is) = rw is (goes_alike goes_through s.held s.held refl refl refl refl)
device_goes s (refused n) next (inl (failed, number, is)) = rw is (goes_alike (refused n) s.held s.held refl refl refl refl)
device_goes s (refused n) next (inr (works, busy, number, is)) = rw is (goes_alike (refused n) s.held s.held refl refl refl refl)
device_goes s _ next step = absurd step

settle_goes : (s : State) (answer : Answer) (next : State) → SettleStep s answer next → Goes answer s.held next.held
settle_goes s (settled_to n) next (due, is) = rw is (goes_alike (settled_to n) s.held _ refl refl refl refl)
settle_goes s (refused n) next (due, is) = rw is (goes_alike (refused n) s.held s.held refl refl refl refl)
settle_goes s _ next step = absurd step

ack_goes : (s : State) (t : Ticket) (answer : Answer) (next : State) → AckStep s t answer next → Goes answer s.held next.held
ack_goes s t (acknowledged true) next (due, is) = rw is (goes_alike (acknowledged true) s.held _ refl refl refl refl)
ack_goes s t (acknowledged false) next (due, is) = rw is (goes_alike (acknowledged false) s.held s.held refl refl refl refl)
ack_goes s t _ next step = absurd step

tell_goes : (s : State) (c : List (ℕ × ℕ)) (answer : Answer) (next : State) → TellStep s c answer next → Goes answer s.held next.held
tell_goes s c (operations ops) next (due, is) = rw is (goes_alike (operations ops) s.held _ refl refl refl refl)
tell_goes s c (refused n) next (due, is) = rw is (goes_alike (refused n) s.held s.held refl refl refl refl)
tell_goes s c _ next step = absurd step

have_goes : (s : State) (answer : Answer) (next : State) → HaveStep s answer next → Goes answer s.held next.held
have_goes s (clock c) next (due, is) = rw is (goes_alike (clock c) s.held _ refl refl refl refl)
have_goes s (refused n) next (due, is) = rw is (goes_alike (refused n) s.held s.held refl refl refl refl)
have_goes s _ next step = absurd step

pub step_goes : (s : State) (event : Event) (answer : Answer) (next : State) → Step s event answer next → Goes answer s.held next.held
step_goes s (edit session e) answer next step = edit_goes s session e answer next step
step_goes s (merge peer op) answer next step = merge_goes s peer op answer next step
step_goes s begin answer next step = begin_goes s answer next step
step_goes s device_step answer next step = device_goes s answer next step
step_goes s settle answer next step = settle_goes s answer next step
step_goes s (ack t) answer next step = ack_goes s t answer next step
step_goes s (tell c) answer next step = tell_goes s c answer next step
step_goes s have answer next step = have_goes s answer next step

-- what is settled of a commit that is through is more than was
settle_rises : (failed idle_now less : Bool) (settled live next n : ℕ) → nat_lt settled live ≡ less
    → (if failed then refused 44 else elim (through_of (commit_in idle_now settled live next)) [ None ↦ refused 8 | Some m ↦ settled_to m ]) ≡ settled_to n
    → settled ≤ n
settle_rises true idle_now less settled live next n is due = absurd (cc)
settle_rises false false less settled live next n is due = absurd (cc)
settle_rises false true true settled live next n is due =
    let due = rw is at due in
    let same : live ≡ n = cc in
    let more : settled ≤ live = grind (arith, nat_tests) in
    rw (sym same) more
settle_rises false true false settled live next n is due = let due = rw is at due in absurd (cc)

-- the settled number of a hub doesn't fall
pub step_rises : {D : Type 0} (old : Parts D) (event : Event) (answer : Answer) (next : State) → Step (state_of old) event answer next
    → old.replica.settled ≤ settled_by old.replica.settled answer
step_rises old settle (settled_to n) next (due, is) =
    settle_rises old.store.failed (is_idle old.store.phase) (nat_lt old.replica.settled (committed old.store)) old.replica.settled
    (committed old.store) (count_of old.store.next.body) n refl due
step_rises old (edit session e) (settled_to n) next step = absurd step
step_rises old (merge peer op) (settled_to n) next step = absurd step
step_rises old begin (settled_to n) next step = absurd step
step_rises old device_step (settled_to n) next step = absurd step
step_rises old (ack t) (settled_to n) next step = absurd step
step_rises old (tell c) (settled_to n) next step = absurd step
step_rises old have (settled_to n) next step = absurd step
step_rises old event _ next step = omega arith
