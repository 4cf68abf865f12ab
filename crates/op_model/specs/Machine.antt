-- What a replica with its store does, one event after another.
use Rattle.std.specs.Prelude.{◌≡◌, ◌⊎◌, ℕ, ◌+◌, ◌≤◌, ◌<◌, Bool, true, false, not, ◌||◌, ◌==◌}
use Rattle.std.specs.Prelude.{nat_le, if◌then◌else◌, List, [], ◌∷◌, ◌++◌, length, take}
use Rattle.std.specs.Prelude.{Option, Some, None, is_some}
use Rattle.std.specs.Option.{option_map, option_and_then}
use Rattle.fixed_numbers.specs.declared.limits.TheConstants.{MAX_PENDING, MAX_STEPS, MAX_VERSION}
use Rattle.fixed_numbers.specs.declared.refusals.TheConstants.{BUSY, FAILED, LIMIT, MEMORY, OWN_UNKNOWN, STEPS, STORE_FAILED}
use Rattle.fixed_numbers.specs.declared.refusals.TheConstants.{SYNC_FAILED, WRITE_FAILED}
use Rattle.op_model.specs.declared.op.Op.{Op}
use Rattle.op_ids.specs.Clock.{is_ready}
use Rattle.op_model.specs.Causality.{clock_of, is_known, first_failed}
use Rattle.op_model.specs.Actions.{made_by_action, refusal_of, Asked}
use Rattle.op_model.specs.Records.{record_length}
use Rattle.op_model.specs.Held.{ReplicaHeld, opened_with, settled_list, with_edit, with_merge, with_settled, with_acked, with_told}
use Rattle.op_model.specs.Telling.{untold, reach}
use Rattle.op_model.specs.Tokens.{carries, last_of}
use Rattle.op_model.specs.Waiting.{action_length, waiting_length}
pub use Rattle.op_model.specs.Tickets.{Ticket, ticket_of, ticket_behind}

-- a commit: of the first count operations of the list, and whether it is through
pub record Commit : Type 0 where
  pub count : ℕ
  pub through : Bool

-- what the replica holds, the version of the live root, whether the device has failed and a refused begin or settle has told it, and
-- the commit, if there is one
pub record State : Type 0 where
  pub held : ReplicaHeld
  pub version : ℕ
  pub failed : Bool
  pub failure_told : Bool
  pub commit : Option Commit

pub data Event : Type 0 where
  edit : ℕ → Asked → Event
  merge : ℕ → Op → Event
  begin : Event
  device_step : Event
  settle : Event
  ack : Ticket → Event
  tell : List (ℕ × ℕ) → Event
  have : Event

pub data Answer : Type 0 where
  -- of an edit
  ticket : Ticket → Answer
  -- of a merge
  applied : Answer
  known : Answer
  early : Answer
  -- of a begin: a commit of a given number of operations, or that there is nothing new
  begun : ℕ → Answer
  nothing_new : Answer
  -- of a device step: no call, a call that succeeded, or the commit's last call
  idle : Answer
  goes_on : Answer
  goes_through : Answer
  -- of a settle: the settled number
  settled_to : ℕ → Answer
  -- of an ack: whether the ticket's operations are settled
  acknowledged : Bool → Answer
  -- of a tell and of a have
  operations : List Op → Answer
  clock : List (ℕ × ℕ) → Answer
  -- of any: a refusal by its number
  refused : ℕ → Answer

-- the state behind a refused begin or settle: it has told the failure, if there is one
abbrev pub with_failure_told : State → State
with_failure_told s = record s { failure_told = s.failed || s.failure_told }

-- a step leaves two places behind it: for the settlements of the commit under way and of the one after it
abbrev pub has_places : ReplicaHeld → Bool
has_places h = nat_le (length h.steps + 3) MAX_STEPS

-- how many operations are settled or in the commit
abbrev pub taken_in : Option Commit → ℕ → ℕ
taken_in None settled = settled
taken_in (Some c) settled = c.count

-- the bytes of what waits for the next commit
abbrev pub pending : State → ℕ
pending s = waiting_length (taken_in s.commit s.held.settled) s.held.steps s.held.list

-- the records that wait, with this many bytes of others behind them, have at most 1,048,576 bytes
abbrev pub has_record_room : State → ℕ → Bool
has_record_room s more = nat_le (pending s + more) MAX_PENDING

-- the bytes for which there has to be room where an edit is made
abbrev pub edit_length : ReplicaHeld → Asked → ℕ
edit_length h e = action_length h.list h.replica e

-- what would be appended is refused with 8 where its records have no room
abbrev pub with_room : Bool → Answer → Answer
with_room true a = a
with_room false (ticket t) = refused BUSY
with_room false applied = refused BUSY
with_room false a = a

-- the answer to an edit that nothing but the kept steps may refuse: steps 10
abbrev pub edit_answer_unless : ReplicaHeld → Asked → Option ℕ → Answer
edit_answer_unless h e (Some n) = refused n
edit_answer_unless h e None =
    if has_places h then ticket (ticket_of (h.list ++ made_by_action h.list h.replica e) e.doc) else refused STEPS

-- the ticket of the edit that was made with this token, if one was
abbrev pub token_ticket : ReplicaHeld → ℕ → Option Ticket
token_ticket h token = option_map ticket_behind (last_of (carries h.replica token) h.list)

-- the ticket that an edit had when it was made, if it has a token and was made
abbrev pub known_ticket : ReplicaHeld → Asked → Option Ticket
known_ticket h e = option_and_then (token_ticket h) e.token

-- an edit that was made is answered as it was
abbrev pub unless_known : Option Ticket → Answer → Answer
unless_known None a = a
unless_known (Some t) a = ticket t

-- the answer to a new edit of a replica without a store: its own refusals, steps 10
abbrev pub new_edit_alone : ReplicaHeld → Asked → Answer
new_edit_alone h e = edit_answer_unless h e (refusal_of h.list h.replica e)

-- the answer to an edit of a replica without a store
abbrev pub edit_alone : ReplicaHeld → Asked → Answer
edit_alone h e = unless_known (known_ticket h e) (new_edit_alone h e)

-- the answers to a new edit, in the order of test: a failure that is told 9, those of the replica alone, no room for the records 8
abbrev pub new_edit_answer : State → Asked → Answer
new_edit_answer s e =
    if s.failure_told then refused FAILED
    else with_room (has_record_room s (edit_length s.held e)) (new_edit_alone s.held e)

-- the answers to an edit: where it was made before, its ticket, even behind a failure
abbrev pub edit_answer : State → Asked → Answer
edit_answer s e = unless_known (known_ticket s.held e) (new_edit_answer s e)

-- the answer to a merge that a check may refuse: steps 10
abbrev pub merge_answer_unless : ReplicaHeld → Option ℕ → Answer
merge_answer_unless h (Some n) = refused n
merge_answer_unless h None = if has_places h then applied else refused STEPS

-- the answers of a merge without a store, in the order of test: known, own but unknown 20, early, then the checks, steps 10
abbrev pub merge_alone : ReplicaHeld → Op → Answer
merge_alone h op =
    if is_known (clock_of h.list) op then known
    else if op.id.replica == h.replica then refused OWN_UNKNOWN
    else if not (is_ready (clock_of h.list) op.id.replica op.deps) then early
    else merge_answer_unless h (first_failed h.list op)

-- the answers of a merge, in the order of test: a failure that is told 9, those of the replica alone, no room for the record 8
abbrev pub merge_answer : State → Op → Answer
merge_answer s op =
    if s.failure_told then refused FAILED else with_room (has_record_room s (record_length op)) (merge_alone s.held op)

-- the answers of a begin, in the order of test: failed 44, busy 8, nothing new, no further version 7
abbrev pub begin_answer : State → Answer
begin_answer s =
    if s.failed then refused STORE_FAILED
    else if is_some s.commit then refused BUSY
    else if nat_le (length s.held.list) s.held.settled then nothing_new
    else if nat_le MAX_VERSION s.version then refused LIMIT
    else begun (length s.held.list)

-- how many operations a commit that is through has
abbrev pub through_of : Option Commit → Option ℕ
through_of None = None
through_of (Some c) = if c.through then Some c.count else None

-- a device call is due: a commit isn't through
abbrev pub is_under_way : Option Commit → Bool
is_under_way None = false
is_under_way (Some c) = not c.through

abbrev pub through : Option Commit → Option Commit
through None = None
through (Some c) = Some (record c { through = true })

-- the state with its commit through, whose root is live now
abbrev pub with_through : State → State
with_through s = record s { version = s.version + 1; commit = through s.commit }

-- this number may be answered where that answer is due: the refusal's own, or 1, out of memory, in place of a success that grows
-- something
abbrev pub IsRefusal : ℕ → Answer → Type 0
IsRefusal n (refused m) = n ≡ m
IsRefusal n (ticket t) = (t.known ≡ false) × (n ≡ MEMORY)
IsRefusal n applied = n ≡ MEMORY
IsRefusal n (begun m) = n ≡ MEMORY
IsRefusal n _ = ⊥

-- the state with what the replica holds then
abbrev pub holding : State → ReplicaHeld → State
holding s h = record s { held = h }

-- what the replica holds behind an edit with this ticket: one that was made before adds nothing
abbrev pub after_edit : Ticket → ReplicaHeld → ℕ → Asked → ReplicaHeld
after_edit t h session e = if t.known then h else with_edit h session e

abbrev pub EditStep : State → ℕ → Asked → Answer → State → Type 0
EditStep s session e (ticket t) next = (edit_answer s e ≡ ticket t) × (next ≡ holding s (after_edit t s.held session e))
EditStep s session e (refused n) next = IsRefusal n (edit_answer s e) × (next ≡ s)
EditStep s session e _ next = ⊥

abbrev pub MergeStep : State → ℕ → Op → Answer → State → Type 0
MergeStep s peer op applied next = (merge_answer s op ≡ applied) × (next ≡ holding s (with_merge s.held peer op))
MergeStep s peer op known next = (merge_answer s op ≡ known) × (next ≡ s)
MergeStep s peer op early next = (merge_answer s op ≡ early) × (next ≡ s)
MergeStep s peer op (refused n) next = IsRefusal n (merge_answer s op) × (next ≡ s)
MergeStep s peer op _ next = ⊥

abbrev pub BeginStep : State → Answer → State → Type 0
BeginStep s (begun n) next =
    (begin_answer s ≡ begun n) × (next ≡ record s { commit = Some (record { count = n; through = false }) })
BeginStep s nothing_new next = (begin_answer s ≡ nothing_new) × (next ≡ s)
BeginStep s (refused n) next = IsRefusal n (begin_answer s) × (next ≡ with_failure_told s)
BeginStep s _ next = ⊥

-- A device call goes on or makes the commit through; or it fails, and from then on there is none.
abbrev pub DeviceStep : State → Answer → State → Type 0
DeviceStep s idle next = (s.failed ≡ false) × (is_under_way s.commit ≡ false) × (next ≡ s)
DeviceStep s goes_on next = (s.failed ≡ false) × (is_under_way s.commit ≡ true) × (next ≡ s)
DeviceStep s goes_through next = (s.failed ≡ false) × (is_under_way s.commit ≡ true) × (next ≡ with_through s)
DeviceStep s (refused n) next =
    ((s.failed ≡ true) × (n ≡ STORE_FAILED) × (next ≡ s))
    ⊎ ((s.failed ≡ false) × (is_under_way s.commit ≡ true) × ((n ≡ WRITE_FAILED) ⊎ (n ≡ SYNC_FAILED))
    × (next ≡ record s { failed = true }))
DeviceStep s _ next = ⊥

-- the state after the settlement of a commit that is through
abbrev pub with_settlement : State → ℕ → State
with_settlement s n = record s { held = with_settled s.held n; commit = None }

abbrev pub settle_answer : State → Answer
settle_answer s =
    if s.failed then refused STORE_FAILED else elim (through_of s.commit) [ None ↦ refused BUSY | Some n ↦ settled_to n ]

abbrev pub SettleStep : State → Answer → State → Type 0
SettleStep s (settled_to n) next = (settle_answer s ≡ settled_to n) × (next ≡ with_settlement s n)
SettleStep s (refused n) next = (settle_answer s ≡ refused n) × (next ≡ with_failure_told s)
SettleStep s _ next = ⊥

abbrev pub AckStep : State → Ticket → Answer → State → Type 0
AckStep s t (acknowledged true) next = (t.end ≤ s.held.settled) × (next ≡ holding s (with_acked s.held t.end))
AckStep s t (acknowledged false) next = (s.held.settled < t.end) × (next ≡ s)
AckStep s t _ next = ⊥

abbrev pub TellStep : State → List (ℕ × ℕ) → Answer → State → Type 0
TellStep s c (operations ops) next =
    (ops ≡ untold c (settled_list s.held)) × (next ≡ holding s (with_told s.held (reach c (settled_list s.held))))
TellStep s c (refused n) next = (n ≡ MEMORY) × (next ≡ s)
TellStep s c _ next = ⊥

abbrev pub HaveStep : State → Answer → State → Type 0
HaveStep s (clock c) next = (c ≡ clock_of (settled_list s.held)) × (next ≡ holding s (with_told s.held s.held.settled))
HaveStep s (refused n) next = (n ≡ MEMORY) × (next ≡ s)
HaveStep s _ next = ⊥

-- one event of a replica, with its answer: a pair that never comes is impossible
abbrev pub Step : State → Event → Answer → State → Type 0
Step s (edit session e) a next = EditStep s session e a next
Step s (merge peer op) a next = MergeStep s peer op a next
Step s begin a next = BeginStep s a next
Step s device_step a next = DeviceStep s a next
Step s settle a next = SettleStep s a next
Step s (ack t) a next = AckStep s t a next
Step s (tell c) a next = TellStep s c a next
Step s have a next = HaveStep s a next

-- Events one after another, each with its answer. There is no crash among them: what one leaves is said below.
abbrev pub Run : State → List (Event × Answer) → State → Type 0
Run s [] next = next ≡ s
Run s (e ∷ es) next = (mid : State) × Step s e.0 e.1 mid × Run mid es next

-- the state after a replica opened a file with this list
abbrev pub opened : ℕ → List Op → ℕ → State
opened replica list version = record {
  held = opened_with replica list;
  version = version;
  failed = false;
  failure_told = false;
  commit = None;
}

-- the state after opening a file that has the first count operations
abbrev pub reopened : State → ℕ → ℕ → State
reopened s count version = opened s.held.replica (take count s.held.list) version

-- A crash leaves the settled list, or the list of the commit; once that is through, its list alone.
abbrev pub CrashLeavesOf : State → Commit → State → Type 0
CrashLeavesOf s c next = elim c.through [
  | true ↦ next ≡ reopened s c.count s.version
  | false ↦ (next ≡ reopened s s.held.settled s.version) ⊎ (next ≡ reopened s c.count (s.version + 1))
]

-- what is opened after a crash
abbrev pub CrashLeaves : State → State → Type 0
CrashLeaves s next = elim s.commit [ None ↦ next ≡ reopened s s.held.settled s.version | Some c ↦ CrashLeavesOf s c next ]
