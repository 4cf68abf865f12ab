-- Each event of a replica, and each crash, keeps what the replica keeps; and what it tells is settled.
use Rattle.std.proofs.Common.{◌≡◌, ℕ, ◌+◌, ◌≤◌, Bool, true, false, not, ◌⊎◌, inl, inr, List}
use Rattle.std.proofs.Common.{[], ◌∷◌, ◌++◌, length, take, Option, Some, None, arith, ap, refl, sym}
use Rattle.std.proofs.Common.{◌∙◌, map, filter, take_all, length-append}
use Rattle.std.specs.Prelude.{◌==◌, nat_le, if◌then◌else◌, is_some}
use Rattle.std.specs.List.{enumerate_from}
use Rattle.std.proofs.lemmas.Bool.{cases_Bool}
use Rattle.std.proofs.lemmas.List.{take-append-le, take-map}
use Rattle.op_ids.specs.Clock.{is_ready}
use Rattle.op_model.specs.declared.op.Op.{Op}
use Rattle.op_model.specs.Actions.{Asked, made_by_action, refusal_of}
use Rattle.op_model.specs.Causality.{clock_of, is_known, first_failed, HasOp, IsCausallyClosed}
use Rattle.op_model.specs.Held.{ReplicaHeld, with_edit, with_merge}
use Rattle.op_model.specs.Telling.{due, untold}
use Rattle.op_model.specs.Machine.{Commit, State, Ticket, Event, edit, merge, begin, device_step}
use Rattle.op_model.specs.Machine.{settle, ack, tell, have, Answer, ticket, applied, known, early}
use Rattle.op_model.specs.Machine.{begun, nothing_new, idle, goes_on, goes_through, settled_to}
use Rattle.op_model.specs.Machine.{acknowledged, operations, clock, refused, holding}
use Rattle.op_model.specs.Machine.{with_failure_told, has_record_room, edit_length, with_room, new_edit_alone}
use Rattle.op_model.specs.Machine.{new_edit_answer, edit_answer_unless, merge_answer, merge_alone}
use Rattle.op_model.specs.Machine.{merge_answer_unless, through_of, through, EditStep, MergeStep}
use Rattle.op_model.specs.Machine.{BeginStep, DeviceStep, SettleStep, AckStep, TellStep, HaveStep}
use Rattle.op_model.specs.Machine.{Step, reopened, CrashLeavesOf, CrashLeaves}
use Rattle.op_model.specs.Records.{record_length}
use Rattle.model_laws.proofs.Growth.{closed_push}
use Rattle.model_laws.proofs.InTurnText.{in_turn_for, none_refused_closed}
use Rattle.model_laws.proofs.RoomInTurn.{action_not_refused}
use Rattle.model_laws.proofs.Tickets.{edit_cases, was_made, is_new}
use Rattle.world_law.specs.World.{Message, IsInBag, told_by}
use Rattle.world_law.specs.Histories.{ComesFrom}
use Rattle.world_law.proofs.ClosedLists.{closed_take}
use Rattle.world_law.proofs.Members.{HasOp-cases, HasOp-take, HasOp-take_more, HasOp-filter}
use Rattle.world_law.proofs.Sound.{IsWithin, IsSound, Goes, goes_same}
use Rattle.model_laws.proofs.Passing.{passed_follows}

-- an edit's operations are its replica's
pub made_own : (ops : List Op) (replica : ℕ) (e : Asked) (op : Op) → HasOp (made_by_action ops replica e) op → op.id.replica ≡ replica
made_own ops replica e op h = (in_turn_for ops replica e.doc e.token e.changes op h).replica_is

-- operations more, behind the list: a commit keeps its place
within_more : (low high more : ℕ) (c : Option Commit) → high ≤ more → IsWithin low high c → IsWithin low more c
within_more low high more None l h = tt
within_more low high more (Some c) l h = (h.0, omega arith)

-- where an edit is answered a ticket, nothing refuses it
ticket_unless : (h : ReplicaHeld) (e : Asked) (t : Ticket) (r : Option ℕ) → edit_answer_unless h e r ≡ ticket t → r ≡ None
ticket_unless h e t None is = refl
ticket_unless h e t (Some n) is = absurd (cc)

ticket_alone : (failure_told room : Bool) (t : Ticket) (answer : Answer) → (if failure_told then refused 9 else with_room room answer) ≡ ticket t
    → answer ≡ ticket t
ticket_alone true room t answer is = absurd (cc)
ticket_alone false true t answer is = is
ticket_alone false false t (ticket u) is = absurd (cc)
ticket_alone false false t applied is = absurd (cc)
ticket_alone false false t answer is = is

-- so the list stays closed
edit_closed : (s : State) (e : Asked) (t : Ticket) → IsCausallyClosed s.held.list → new_edit_answer s e ≡ ticket t
    → IsCausallyClosed (s.held.list ++ made_by_action s.held.list s.held.replica e)
edit_closed s e t closed is =
    let none = ticket_unless s.held e t (refusal_of s.held.list s.held.replica e) (ticket_alone s.failure_told (has_record_room s (edit_length s.held e)) t (new_edit_alone s.held e) is) in
    none_refused_closed s.held.list s.held.replica e.doc e.token e.changes closed (action_not_refused s.held.list s.held.replica e closed none)

edit_made : (bag : List Message) (s : State) (session : ℕ) (e : Asked) (t : Ticket) → IsSound bag s
    → new_edit_answer s e ≡ ticket t → Goes bag s (holding s (with_edit s.held session e))
edit_made bag s session e t h is =
    let long = length-append s.held.list (made_by_action s.held.list s.held.replica e) in
    let front = take-append-le s.held.settled s.held.list (made_by_action s.held.list s.held.replica e) h.settled in
    let settled = h.settled in
    record {
      sound = record {
        closed = edit_closed s e t h.closed is;
        foreign = λ op k. elim (HasOp-cases s.held.list (made_by_action s.held.list s.held.replica e) op k) [
          | inl l ↦ h.foreign op l
          | inr l ↦ inl (made_own s.held.list s.held.replica e op l)
        ];
        settled = omega arith;
        commit = within_more s.held.settled (length s.held.list) (length (s.held.list ++ made_by_action s.held.list s.held.replica e)) s.commit (omega arith) h.commit;
      };
      number = refl;
      kept = λ op k. rw front k;
    }

edit_goes : (bag : List Message) (s : State) (session : ℕ) (e : Asked) (a : Answer) (next : State) → IsSound bag s
    → EditStep s session e a next → Goes bag s next
edit_goes bag s session e (ticket t) next h (is, at) =
    elim (edit_cases s e t is) [
      | was_made k found ↦ goes_same bag s next h (rw found.known at at)
      | is_new k answer due ↦ rw at (rw due (edit_made bag s session e t h answer))
    ]
edit_goes bag s session e (refused n) next h (is, at) = goes_same bag s next h at
edit_goes bag s session e _ next h k = absurd k

-- where a merge is applied, the operation is ready, and no check fails
applied_unless : (h : ReplicaHeld) (r : Option ℕ) → merge_answer_unless h r ≡ applied → r ≡ None
applied_unless h None is = refl
applied_unless h (Some n) is = absurd (cc)

merge_passes : (known_op own ready : Bool) (answer : Answer)
    → (if known_op then known else if own then refused 20 else if not ready then early else answer) ≡ applied
    → (ready ≡ true) × (answer ≡ applied)
merge_passes true o r answer e = absurd (cc)
merge_passes false true r answer e = absurd (cc)
merge_passes false false false answer e = absurd (cc)
merge_passes false false true answer e = (refl, e)

pub applied_alone : (failure_told room : Bool) (answer : Answer) → (if failure_told then refused 9 else with_room room answer) ≡ applied → answer ≡ applied
applied_alone true room answer is = absurd (cc)
applied_alone false true answer is = is
applied_alone false false (ticket t) is = absurd (cc)
applied_alone false false applied is = refl
applied_alone false false answer is = is

merge_made : (bag : List Message) (s : State) (peer : ℕ) (op : Op) → IsSound bag s → IsInBag bag op
    → merge_answer s op ≡ applied → Goes bag s (holding s (with_merge s.held peer op))
merge_made bag s peer op h told is =
    let alone = applied_alone s.failure_told (has_record_room s (record_length op)) (merge_alone s.held op) is in
    let passes = merge_passes (is_known (clock_of s.held.list) op) (op.id.replica == s.held.replica)
    (is_ready (clock_of s.held.list) op.id.replica op.deps) (merge_answer_unless s.held (first_failed s.held.list op)) alone in
    let follows = passed_follows s.held.list op passes.0 (applied_unless s.held (first_failed s.held.list op) passes.1) in
    let long = length-append s.held.list (op ∷ []) in
    let front = take-append-le s.held.settled s.held.list (op ∷ []) h.settled in
    let settled = h.settled in
    record {
      sound = record {
        closed = closed_push s.held.list op h.closed follows;
        foreign = λ x k. elim (HasOp-cases s.held.list (op ∷ []) x k) [
          | inl l ↦ h.foreign x l
          | inr l ↦ elim l [ inl e ↦ inr (rw (← e) told) | inr n ↦ absurd n ]
        ];
        settled = omega arith;
        commit = within_more s.held.settled (length s.held.list) (length (s.held.list ++ op ∷ [])) s.commit (omega arith) h.commit;
      };
      number = refl;
      kept = λ x k. rw front k;
    }

merge_goes : (bag : List Message) (s : State) (peer : ℕ) (op : Op) (a : Answer) (next : State) → IsSound bag s → IsInBag bag op
    → MergeStep s peer op a next → Goes bag s next
merge_goes bag s peer op applied next h told (is, at) = rw at (merge_made bag s peer op h told is)
merge_goes bag s peer op known next h told (is, at) = goes_same bag s next h at
merge_goes bag s peer op early next h told (is, at) = goes_same bag s next h at
merge_goes bag s peer op (refused n) next h told (is, at) = goes_same bag s next h at
merge_goes bag s peer op _ next h told k = absurd k

-- the same list and settled number, and a commit that lies within
goes_with_commit : (bag : List Message) (s : State) (c : Option Commit) → IsSound bag s
    → IsWithin s.held.settled (length s.held.list) c → Goes bag s (record s { commit = c })
goes_with_commit bag s c h within = record {
  sound = record { closed = h.closed; foreign = h.foreign; settled = h.settled; commit = within };
  number = refl;
  kept = λ op k. k;
}

-- the same but for what is told of a failure
goes_failure_told : (bag : List Message) (s next : State) → IsSound bag s → next ≡ with_failure_told s
    → Goes bag s next
goes_failure_told bag s next h at =
    rw at (record {
      sound = record { closed = h.closed; foreign = h.foreign; settled = h.settled; commit = h.commit };
      number = refl;
      kept = λ op k. k;
    })

pub begun_length : (failed busy nothing full : Bool) (long n : ℕ)
    → (if failed then refused 44 else if busy then refused 8 else if nothing then nothing_new else if full then refused 7 else begun long) ≡ begun n
    → long ≡ n
begun_length true b o f long n e = absurd (cc)
begun_length false true o f long n e = absurd (cc)
begun_length false false true f long n e = absurd (cc)
begun_length false false false true long n e = absurd (cc)
begun_length false false false false long n e = cc

begin_goes : (bag : List Message) (s : State) (a : Answer) (next : State) → IsSound bag s → BeginStep s a next
    → Goes bag s next
begin_goes bag s (begun n) next h (is, at) =
    let nothing = nat_le (length s.held.list) s.held.settled in
    let long = begun_length s.failed (is_some s.commit) nothing (nat_le 18446744073709551615 s.version) (length s.held.list) n is in
    let settled = h.settled in
    rw at (goes_with_commit bag s (Some (record { count = n; through = false })) h (omega arith, omega arith))
begin_goes bag s nothing_new next h (is, at) = goes_same bag s next h at
begin_goes bag s (refused n) next h (is, at) = goes_failure_told bag s next h at
begin_goes bag s _ next h k = absurd k

within_through : (low high : ℕ) (c : Option Commit) → IsWithin low high c → IsWithin low high (through c)
within_through low high None h = tt
within_through low high (Some c) h = h

device_goes : (bag : List Message) (s : State) (a : Answer) (next : State) → IsSound bag s → DeviceStep s a next
    → Goes bag s next
device_goes bag s idle next h k = goes_same bag s next h k.2
device_goes bag s goes_on next h k = goes_same bag s next h k.2
device_goes bag s goes_through next h k =
    let at = k.2 in rw at (record {
      sound = record {
        closed = h.closed;
        foreign = h.foreign;
        settled = h.settled;
        commit = within_through s.held.settled (length s.held.list) s.commit h.commit;
      };
      number = refl;
      kept = λ op l. l;
    })
device_goes bag s (refused n) next h (inl k) = goes_same bag s next h k.2
device_goes bag s (refused n) next h (inr k) =
    let at = k.3 in rw at (record {
      sound = record { closed = h.closed; foreign = h.foreign; settled = h.settled; commit = h.commit };
      number = refl;
      kept = λ op l. l;
    })
device_goes bag s _ next h k = absurd k

pub settled_by_commit : (failed : Bool) (c : Option Commit) (low high n : ℕ) → IsWithin low high c
    → (if failed then refused 44 else elim (through_of c) [ None ↦ refused 8 | Some m ↦ settled_to m ]) ≡ settled_to n
    → (low ≤ n) × (n ≤ high)
settled_by_commit true c low high n h e = absurd (cc)
settled_by_commit false None low high n h e = absurd (cc)
settled_by_commit false (Some c) low high n h e = through_cases c.through c.count h e
  where
    through_cases : (t : Bool) (count : ℕ) → (low ≤ count) × (count ≤ high)
        → (elim (if t then Some count else None) [ None ↦ refused 8 | Some m ↦ settled_to m ]) ≡ settled_to n → (low ≤ n) × (n ≤ high)
    through_cases true count w f = let same : count ≡ n = cc in rw (← same) w
    through_cases false count w f = absurd (cc)

settle_goes : (bag : List Message) (s : State) (a : Answer) (next : State) → IsSound bag s → SettleStep s a next
    → Goes bag s next
settle_goes bag s (settled_to n) next h (is, at) =
    let lies = settled_by_commit s.failed s.commit s.held.settled (length s.held.list) n h.commit is in
    rw at (record {
      sound = record { closed = h.closed; foreign = h.foreign; settled = lies.1; commit = tt };
      number = refl;
      kept = λ op k. HasOp-take_more s.held.settled n s.held.list op lies.0 k;
    })
settle_goes bag s (refused n) next h (is, at) = goes_failure_told bag s next h at
settle_goes bag s _ next h k = absurd k

ack_goes : (bag : List Message) (s : State) (t : Ticket) (a : Answer) (next : State) → IsSound bag s → AckStep s t a next
    → Goes bag s next
ack_goes bag s t (acknowledged true) next h (is, at) =
    rw at (record {
      sound = record { closed = h.closed; foreign = h.foreign; settled = h.settled; commit = h.commit };
      number = refl;
      kept = λ op k. k;
    })
ack_goes bag s t (acknowledged false) next h (is, at) = goes_same bag s next h at
ack_goes bag s t _ next h k = absurd k

goes_with_told : (bag : List Message) (s : State) (n : ℕ) → IsSound bag s
    → Goes bag s (holding s (record s.held { told = n }))
goes_with_told bag s n h = record {
  sound = record { closed = h.closed; foreign = h.foreign; settled = h.settled; commit = h.commit };
  number = refl;
  kept = λ op k. k;
}

tell_goes : (bag : List Message) (s : State) (c : List (ℕ × ℕ)) (a : Answer) (next : State) → IsSound bag s
    → TellStep s c a next → Goes bag s next
tell_goes bag s c (operations ops) next h (is, at) = rw at (goes_with_told bag s _ h)
tell_goes bag s c (refused n) next h (is, at) = goes_same bag s next h at
tell_goes bag s c _ next h k = absurd k

have_goes : (bag : List Message) (s : State) (a : Answer) (next : State) → IsSound bag s
    → HaveStep s a next → Goes bag s next
have_goes bag s (clock c) next h (is, at) = rw at (goes_with_told bag s _ h)
have_goes bag s (refused n) next h (is, at) = goes_same bag s next h at
have_goes bag s _ next h k = absurd k

-- each event keeps what the replica keeps, and all that was settled
pub step_goes : (bag : List Message) (s : State) (e : Event) (a : Answer) (next : State) → IsSound bag s → ComesFrom bag e
    → Step s e a next → Goes bag s next
step_goes bag s (edit session e) a next h from k = edit_goes bag s session e a next h k
step_goes bag s (merge peer op) a next h from k = merge_goes bag s peer op a next h from k
step_goes bag s begin a next h from k = begin_goes bag s a next h k
step_goes bag s device_step a next h from k = device_goes bag s a next h k
step_goes bag s settle a next h from k = settle_goes bag s a next h k
step_goes bag s (ack t) a next h from k = ack_goes bag s t a next h k
step_goes bag s (tell c) a next h from k = tell_goes bag s c a next h k
step_goes bag s have a next h from k = have_goes bag s a next h k

-- what is opened from a front that has all that is settled
opened_goes : (bag : List Message) (s : State) (n version : ℕ) → IsSound bag s → s.held.settled ≤ n → n ≤ length s.held.list
    → Goes bag s (reopened s n version)
opened_goes bag s n version h low high = record {
  sound = record {
    closed = closed_take s.held.list n h.closed;
    foreign = λ op k. h.foreign op (HasOp-take n s.held.list op k);
    settled = omega arith;
    commit = tt;
  };
  number = refl;
  kept = λ op k. rw (take_all (length (take n s.held.list)) (take n s.held.list) (omega arith)) (HasOp-take_more s.held.settled n s.held.list op low k);
}

crash_of-through : (bag : List Message) (s next : State) (count : ℕ) (t : Bool) → IsSound bag s
    → (s.held.settled ≤ count) × (count ≤ length s.held.list)
    → (elim t as (λ _. Type 0) [
      | true ↦ next ≡ reopened s count s.version
      | false ↦ (next ≡ reopened s s.held.settled s.version) ⊎ (next ≡ reopened s count (s.version + 1))
    ])
    → Goes bag s next
crash_of-through bag s next count true h lies is = rw is (opened_goes bag s count s.version h lies.0 lies.1)
crash_of-through bag s next count false h lies (inl is) = rw is (opened_goes bag s s.held.settled s.version h (omega arith) h.settled)
crash_of-through bag s next count false h lies (inr is) = rw is (opened_goes bag s count (s.version + 1) h lies.0 lies.1)

crash_of : (bag : List Message) (s next : State) (c : Option Commit) → IsSound bag s → IsWithin s.held.settled (length s.held.list) c
    → (elim c as (λ _. Type 0) [ None ↦ next ≡ reopened s s.held.settled s.version | Some d ↦ CrashLeavesOf s d next ])
    → Goes bag s next
crash_of bag s next None h lies is = rw is (opened_goes bag s s.held.settled s.version h (omega arith) h.settled)
crash_of bag s next (Some c) h lies is = crash_of-through bag s next c.count c.through h lies is

-- and so does each crash
pub crash_goes : (bag : List Message) (s next : State) → IsSound bag s → CrashLeaves s next → Goes bag s next
crash_goes bag s next h is = crash_of bag s next s.commit h h.commit is

-- numbers aside, what is told is the first 64 operations that the clock doesn't count
numbered_known : (c : List (ℕ × ℕ)) (n : ℕ) (ops : List Op)
    → map (λ (p : ℕ × Op). p.1) (filter (λ p. not (is_known c p.1)) (enumerate_from n ops)) ≡ filter (λ op. not (is_known c op)) ops
numbered_known c n [] = refl
numbered_known c n (op ∷ ops) =
    let rest = numbered_known c (n + 1) ops in
    elim (cases_Bool (is_known c op)) [ inl counted ↦ rw counted rest | inr new ↦ rw new (ap (λ xs. op ∷ xs) rest) ]

untold_plain : (c : List (ℕ × ℕ)) (ops : List Op) → untold c ops ≡ take 64 (filter (λ op. not (is_known c op)) ops)
untold_plain c ops = sym (take-map (λ p. p.1) 64 _) ∙ ap (take 64) (numbered_known c 1 ops)

-- what is told is among the settled operations
untold_settled : (c : List (ℕ × ℕ)) (settled : List Op) (op : Op) → HasOp (untold c settled) op → HasOp settled op
untold_settled c settled op h =
    HasOp-filter (λ x. not (is_known c x)) settled op (HasOp-take 64 _ op (rw (untold_plain c settled) at h))

tell_settled : (s : State) (c : List (ℕ × ℕ)) (a : Answer) (next : State) (op : Op) → TellStep s c a next → IsInBag (told_by a) op
    → HasOp (take s.held.settled s.held.list) op
tell_settled s c (operations ops) next op (is, at) (inl h) = untold_settled c (take s.held.settled s.held.list) op (rw is at h)
tell_settled s c (operations ops) next op k (inr h) = absurd h
tell_settled s c (refused n) next op k h = absurd h
tell_settled s c _ next op k h = absurd k

-- what is told is settled
pub told_settled : (s : State) (e : Event) (a : Answer) (next : State) (op : Op) → Step s e a next → IsInBag (told_by a) op
    → HasOp (take s.held.settled s.held.list) op
told_settled s (tell c) a next op k h = tell_settled s c a next op k h
told_settled s e (operations ops) next op k h = absurd k
told_settled s e (clock c) next op k h = absurd h
told_settled s e _ next op k h = absurd h
