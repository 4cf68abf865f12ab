-- A list of calls of a hub, one after another.
use Rattle.std.specs.Prelude.{◌≡◌, ◌≢◌, ◌↔◌, ◌⊎◌, ℕ, ◌+◌, ◌≤◌, false, List, [], ◌∷◌, length, take}
use Rattle.fixed_numbers.specs.declared.refusals.TheConstants.{WRITE_FAILED}
use Rattle.disk_trait.specs.declared.facts.DiskFacts.{Ghosts}
use Rattle.group_commit.specs.Counts.{writes_left, syncs_left}
use Rattle.op_model.specs.Machine.{Event, Answer, refused, settled_to, Run}
use Rattle.locked_replica.specs.Calls.{IsCall, calls_in, writes_begun, syncs_begun}
use Rattle.locked_replica.specs.Hub.{Parts, state_of}
use Rattle.locked_replica.specs.Recovery.{HasAtLeast, Recovers}
use Rattle.locked_replica.specs.Steps.{events_of, AreRepliesTo, NamesPhase}
use Rattle.locked_replica.specs.declared.hub_step.HubStep.{HubStep}
use Rattle.locked_replica.specs.declared.hub_reply.HubReply.{HubReply}

-- how many device calls these events made, by their answers
abbrev pub calls_made : List (Event × Answer) → ℕ
calls_made [] = 0
calls_made (e ∷ es) = calls_in e.0 e.1 + calls_made es

-- the settled number behind an answer
abbrev pub settled_by : ℕ → Answer → ℕ
settled_by n (settled_to m) = m
settled_by n a = n

-- the settled number behind these events
abbrev pub settled_behind : ℕ → List (Event × Answer) → ℕ
settled_behind n [] = n
settled_behind n (e ∷ es) = settled_behind (settled_by n e.1) es

-- For every front of these events: each file that a crash at some moment since its end may have left has an image that is a
-- beginning of the final list, of at least the number that was settled at its end.
abbrev pub FrontsStand : {D : Type 0} → Ghosts D → Parts D → List (Event × Answer) → Parts D → Type 0
FrontsStand facts old events new =
    (k : ℕ) (file : List ℕ) → k ≤ length events
    → facts.left_since new.store.disk (facts.time old.store.disk + calls_made (take k events)) file
    → HasAtLeast (settled_behind old.replica.settled (take k events)) new.replica file

-- the calls, each with what it made of the hub
abbrev pub Calls : {D : Type 0} → Ghosts D → Parts D → List (Event × Answer) → Parts D → Type 0
Calls facts old [] new = new ≡ old
Calls {D} facts old (e ∷ es) new = (mid : Parts D) × IsCall facts e.0 e.1 old mid × Calls facts mid es new

-- the file is one that a crash leaves before some of these calls, or after all of them
abbrev pub CrashesIn : {D : Type 0} (facts : Ghosts D) (old : Parts D) (events : List (Event × Answer)) (new : Parts D) → Calls facts old events new → List ℕ → Type 0
CrashesIn facts old [] new calls file = Recovers new file
CrashesIn facts old (e ∷ es) new calls file = Recovers old file ⊎ CrashesIn facts calls.0 es new calls.2 file

-- the writes that the commits make which began in these calls
abbrev pub writes_planned : {D : Type 0} (facts : Ghosts D) (old : Parts D) (events : List (Event × Answer)) (new : Parts D) → Calls facts old events new → ℕ
writes_planned facts old [] new calls = 0
writes_planned facts old (e ∷ es) new calls = writes_begun e.1 calls.0.store + writes_planned facts calls.0 es new calls.2

-- and the syncs
abbrev pub syncs_planned : List (Event × Answer) → ℕ
syncs_planned [] = 0
syncs_planned (e ∷ es) = syncs_begun e.1 + syncs_planned es

-- none of these answers is that a write failed
abbrev pub NoneFailed : List (Event × Answer) → Type 0
NoneFailed [] = Unit {0}
NoneFailed (e ∷ es) = (e.1 ≢ refused WRITE_FAILED) × NoneFailed es

-- These events and answers were made one after another.
pub record Ran {D : Type 0} (facts : Ghosts D) (old : Parts D) (events : List (Event × Answer)) (new : Parts D) : Type 0 where
  -- they are a run of the machine
  pub machine : Run (state_of old) events (state_of new)
  -- the settled number is that of the answers, and never fell
  pub settled : new.replica.settled ≡ settled_behind old.replica.settled events
  pub rising : (k : ℕ) → k ≤ length events → settled_behind old.replica.settled (take k events) ≤ new.replica.settled
  -- the disk's time went on by the device calls that the answers show
  pub tells : facts.tells new.store.disk ↔ facts.tells old.store.disk
  pub time : facts.tells old.store.disk → facts.time new.store.disk ≡ facts.time old.store.disk + calls_made events
  -- a crash at any moment leaves a beginning of the list, with all that was settled by then
  pub fronts : facts.tells old.store.disk → FrontsStand facts old events new
  pub calls : Calls facts old events new
  -- and just what one leaves before some call or after all: no edit is there in part
  pub crashes : facts.tells old.store.disk → (file : List ℕ) → facts.left_since new.store.disk (facts.time old.store.disk) file
      → CrashesIn facts old events new calls file
  -- The disk's own counts rose by the writes and syncs of the commits that began, where none has any left: the writes where none
  -- failed, the syncs where no device call did.
  pub writes : facts.tells old.store.disk → (new.store.failed ≡ false) ⊎ NoneFailed events
      → facts.writes new.store.disk + writes_left new.store
      ≡ facts.writes old.store.disk + writes_left old.store + writes_planned facts old events new calls
  pub syncs : facts.tells old.store.disk → new.store.failed ≡ false
      → facts.syncs new.store.disk + syncs_left new.store ≡ facts.syncs old.store.disk + syncs_left old.store + syncs_planned events

-- each reply to a device step names the phase that its call found
abbrev pub NamePhases : {D : Type 0} (facts : Ghosts D) (old : Parts D) → List HubReply → (events : List (Event × Answer)) (new : Parts D) → Calls facts old events new → Type 0
NamePhases facts old (r ∷ rs) (e ∷ es) new calls = NamesPhase r old.store × NamePhases facts calls.0 rs es new calls.2
NamePhases facts old rs es new calls = Unit {0}

-- Of some steps the first were made, one after another, each with a reply of its own kind.
pub record Replied {D : Type 0} (facts : Ghosts D) (old : Parts D) (steps : List HubStep) (replies : List HubReply) (new : Parts D) : Type 0 where
  pub kinds : AreRepliesTo steps replies
  pub ran : Ran facts old (events_of steps replies) new
  pub phases : NamePhases facts old replies (events_of steps replies) new ran.calls
