-- Calls of a hub, one after another, and those that commit all that it holds.
use Rattle.std.specs.Prelude.{◌≡◌, ◌⊎◌, ℕ, ◌-◌, ◌≤◌, ◌==◌, ◌||◌, Bool, true, false, List, [], ◌∷◌, ◌++◌, length, Option, Some, None, ⊤}
use Rattle.fixed_numbers.specs.declared.refusals.TheConstants.{MEMORY, RANGE, STALE, LIMIT, BUSY, FAILED, STEPS}
use Rattle.disk_trait.specs.declared.facts.DiskFacts.{Ghosts}
use Rattle.op_model.specs.Machine.{State, Event, Answer, begin, device_step, settle, refused, with_through, Commit}
use Rattle.hub_parts.specs.declared.meeting.TheConstants.{BEGIN_TRIES}
use Rattle.locked_replica.specs.Hub.{Parts, state_of}
use Rattle.locked_replica.specs.Run.{Calls}
use Rattle.session_threads.specs.declared.commit_start.CommitStart.{CommitStart}
use Rattle.session_threads.specs.declared.commit_start.CommitStart.TheVariants.{UnderWay, Settled, Refused}

-- by whether the device failed and that is told: no commit is under way, or the failure is told
abbrev pub IsQuietBy : Bool → Bool → Option Commit → Type 0
IsQuietBy false told commit = commit ≡ None
IsQuietBy true told commit = told ≡ true

-- no commit is under way; or the device failed, and that is told
abbrev pub IsQuiet : State → Type 0
IsQuiet s = IsQuietBy s.failed s.failure_told s.commit

-- an event of a commit
abbrev pub IsOfCommit : Event → Type 0
IsOfCommit begin = ⊤
IsOfCommit device_step = ⊤
IsOfCommit settle = ⊤
IsOfCommit _ = ⊥

-- how many begins an event is: one, or none
abbrev pub begins_at : Event → ℕ
begins_at begin = 1
begins_at _ = 0

-- events of a commit, each with its answer, and at most n begins among them
abbrev pub AreOfCommit : ℕ → List (Event × Answer) → Type 0
AreOfCommit n [] = ⊤
AreOfCommit n (e ∷ es) = IsOfCommit e.0 × (begins_at e.0 ≤ n) × AreOfCommit (n - begins_at e.0) es

-- the same event with the same answer, n times
abbrev pub AreTimes : ℕ → Event × Answer → List (Event × Answer) → Type 0
AreTimes n e [] = n ≡ 0
AreTimes n e (x ∷ xs) = (x ≡ e) × AreTimes (n - 1) e xs × (1 ≤ n)

-- events end with these
abbrev pub EndsWith : List (Event × Answer) → List (Event × Answer) → Type 0
EndsWith events last = (before : List (Event × Answer)) × (events ≡ before ++ last)

-- Why not all is settled behind these events: the device failed; there is no further version; or a thousand begins in a row found
-- no memory.
abbrev pub CannotSettle : State → List (Event × Answer) → Type 0
CannotSettle s events =
    (s.failed ≡ true)
    ⊎ EndsWith events ((begin, refused LIMIT) ∷ [])
    ⊎ ((last : List (Event × Answer)) × AreTimes BEGIN_TRIES (begin, refused MEMORY) last × EndsWith events last)

-- the numbers that an edit may be refused with
abbrev pub is_edit_refusal : ℕ → Bool
is_edit_refusal n =
    n == MEMORY || n == RANGE || n == STALE || n == LIMIT || n == BUSY || n == FAILED || n == STEPS

-- the state with a commit of all its operations, of which no device call is made
abbrev pub with_begun : State → State
with_begun s = record s { commit = Some (record { count = length s.held.list; through = false }) }

module _ {D : Type 0} (facts : Ghosts D) where
  -- calls of a commit alone, with at most this number of begins
  pub record CommitCalls (begins : ℕ) (old new : Parts D) : Type 0 where
    pub events : List (Event × Answer)
    pub calls : Calls facts old events new
    pub only : AreOfCommit begins events

  -- how a begin ends: a commit is begun, all was settled, or there is none
  abbrev pub StartedAs : State → State → List (Event × Answer) → CommitStart → Type 0
  StartedAs old new events UnderWay = (old.failed ≡ false) × (new ≡ with_begun old)
  StartedAs old new events Settled = (new ≡ old) × (length old.held.list ≤ old.held.settled)
  StartedAs old new events Refused = (new ≡ old) × CannotSettle new events

  pub record DeskBegins (old : Parts D) (start : CommitStart) (new : Parts D) : Type 0 where
    pub calls : CommitCalls BEGIN_TRIES old new
    pub ends : StartedAs (state_of old) (state_of new) calls.events start

  -- how the device calls of a commit end: it is through, or the device failed
  abbrev pub GoneThrough : State → State → Bool → Type 0
  GoneThrough old new true = new ≡ with_through old
  GoneThrough old new false = new ≡ record old { failed = true }

  pub record GoesThrough (old : Parts D) (is_through : Bool) (new : Parts D) : Type 0 where
    pub calls : CommitCalls 0 old new
    pub ends : GoneThrough (state_of old) (state_of new) is_through

  -- all is settled, or the cause why not
  abbrev pub SettledAs : Parts D → List (Event × Answer) → Bool → Type 0
  SettledAs new events true = length new.replica.list ≤ new.replica.settled
  SettledAs new events false = CannotSettle (state_of new) events

  pub record Commits (old : Parts D) (is_settled : Bool) (new : Parts D) : Type 0 where
    pub calls : CommitCalls BEGIN_TRIES old new
    pub ends : SettledAs new calls.events is_settled
