-- Calls of a hub, one after another.
use Rattle.std.proofs.Common.{ℕ, ◌+◌, ◌-◌, ◌≤◌, List, [], ◌∷◌, ◌++◌, refl, subst, arith}
use Rattle.disk_trait.specs.declared.facts.DiskFacts.{Ghosts}
use Rattle.op_model.specs.Machine.{Event, Answer}
use Rattle.locked_replica.specs.Calls.{IsCall}
use Rattle.locked_replica.specs.Hub.{Parts}
use Rattle.locked_replica.specs.Run.{Calls}
use Rattle.session_threads.specs.HubCalls.{CommitCalls, IsOfCommit, AreOfCommit, begins_at}

-- events with at most n begins have at most m where m is no less
pub AreOfCommit-weaken : (n m : ℕ) (xs : List (Event × Answer)) → n ≤ m → AreOfCommit n xs → AreOfCommit m xs
AreOfCommit-weaken n m [] within only = tt
AreOfCommit-weaken n m (x ∷ xs) within (one, enough, more) = (
  one,
  omega (arith, within, enough),
  AreOfCommit-weaken (n - begins_at x.0) (m - begins_at x.0) xs (omega (arith, within, enough)) more,
)

pub AreOfCommit-append : (n k m : ℕ) (xs ys : List (Event × Answer)) → n + k ≤ m → AreOfCommit n xs → AreOfCommit k ys
    → AreOfCommit m (xs ++ ys)
AreOfCommit-append n k m [] ys within first rest = AreOfCommit-weaken k m ys (omega (arith, within)) rest
AreOfCommit-append n k m (x ∷ xs) ys within (one, enough, more) rest = (
  one,
  omega (arith, within, enough),
  AreOfCommit-append (n - begins_at x.0) k (m - begins_at x.0) xs ys (omega (arith, within, enough)) more rest,
)

module _ {D : Type 0} (facts : Ghosts D) where
  pub Calls-append : (old between new : Parts D) (xs ys : List (Event × Answer))
      → Calls facts old xs between → Calls facts between ys new → Calls facts old (xs ++ ys) new
  Calls-append old between new [] ys same rest = subst (λ hub. Calls facts hub ys new) same rest
  Calls-append old between new (x ∷ xs) ys (hub, one, more) rest = (hub, one, Calls-append hub between new xs ys more rest)

  pub one_call : (old new : Parts D) (event : Event) (answer : Answer)
      → IsCall facts event answer old new → Calls facts old ((event, answer) ∷ []) new
  one_call old new event answer made = (new, made, refl)

  -- no calls of a commit
  abbrev pub no_calls : (n : ℕ) (hub : Parts D) → CommitCalls facts n hub hub
  no_calls n hub = record { events = []; calls = refl; only = tt }

  -- one more call of a commit
  abbrev pub more_calls : (n m : ℕ) (old between new : Parts D) (event : Event) (answer : Answer) → CommitCalls facts n old between
      → IsOfCommit event → n + begins_at event ≤ m → IsCall facts event answer between new → CommitCalls facts m old new
  more_calls n m old between new event answer before of_commit within made = record {
    events = before.events ++ (event, answer) ∷ [];
    calls = Calls-append old between new before.events ((event, answer) ∷ []) before.calls (one_call between new event answer made);
    only = AreOfCommit-append n (begins_at event) m before.events ((event, answer) ∷ []) within before.only (of_commit, omega arith, tt);
  }

  abbrev pub both_calls : (n k m : ℕ) (old between new : Parts D) → n + k ≤ m → CommitCalls facts n old between
      → CommitCalls facts k between new → CommitCalls facts m old new
  both_calls n k m old between new within first rest = record {
    events = first.events ++ rest.events;
    calls = Calls-append old between new first.events rest.events first.calls rest.calls;
    only = AreOfCommit-append n k m first.events rest.events within first.only rest.only;
  }
