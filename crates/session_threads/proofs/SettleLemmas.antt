-- How a commit ends.
use Rattle.std.proofs.Common.{◌≡◌, ℕ, ◌≤◌, Bool, true, false, length, Result, Ok, Err, sym, ap, ◌∙◌, subst, inl, arith}
use Rattle.std.specs.Prelude.{is_ok}
use Rattle.disk_trait.specs.declared.facts.DiskFacts.{Ghosts}
use Rattle.op_model.specs.Machine.{Answer, settle, refused, settled_to, SettleStep}
use Rattle.locked_replica.specs.declared.refusal.HubRefusal.{HubRefusal}
use Rattle.locked_replica.specs.Calls.{IsCall}
use Rattle.locked_replica.specs.Hub.{Parts, state_of}
use Rattle.locked_replica.specs.Steps.{settle_answered, number_of}
use Rattle.session_threads.specs.declared.commit_start.CommitStart.TheVariants.{UnderWay, Settled, Refused}
use Rattle.session_threads.specs.HubCalls.{IsQuiet, CommitCalls, DeskBegins, GoesThrough, Commits, with_begun}
use Rattle.op_model.specs.Machine.{with_through}
use Rattle.session_threads.proofs.CallLemmas.{more_calls, both_calls}
use Rattle.session_threads.proofs.CommitLemmas.{state_settled, never_refused, settled_is_quiet, failure_is_told, settles_nothing}

-- what a commit leaves: its calls and their end, no other commit under way, and the list as it was
pub record Ended {D : Type 0} (facts : Ghosts D) (old : Parts D) (is_settled : Bool) (new : Parts D) : Type 0 where
  pub commits : Commits facts old is_settled new
  pub quiet : IsQuiet (state_of new)
  pub list : new.replica.list ≡ old.replica.list

module _ {D : Type 0} (facts : Ghosts D) where
  pub ended_settled : (old new : Parts D) → IsQuiet (state_of old) → DeskBegins facts old Settled new → Ended facts old true new
  ended_settled old new quiet begins =
      let (same, all) = begins.ends in
      record {
        commits = record { calls = begins.calls; ends = subst (λ s. length s.held.list ≤ s.held.settled) (sym same) all };
        quiet = subst IsQuiet (sym same) quiet;
        list = ap (λ s. s.held.list) same;
      }

  pub ended_refused : (old new : Parts D) → IsQuiet (state_of old) → DeskBegins facts old Refused new → Ended facts old false new
  ended_refused old new quiet begins =
      let (same, cause) = begins.ends in
      record {
        commits = record { calls = begins.calls; ends = cause };
        quiet = subst IsQuiet (sym same) quiet;
        list = ap (λ s. s.held.list) same;
      }

  -- the begins, the device calls and the settlement of a commit
  abbrev all_calls : (old between done new : Parts D) (answer : Answer) → CommitCalls facts 1000 old between
      → CommitCalls facts 0 between done → IsCall facts settle answer done new → CommitCalls facts 1000 old new
  all_calls old between done new answer begun gone made =
      let before = both_calls facts 1000 0 1000 old between done (omega arith) begun gone in
      more_calls facts 1000 1000 old done new settle answer before tt (omega arith) made

  -- the device failed in the commit
  pub ended_wrong : (old between broken new : Parts D) (answer : Result ℕ HubRefusal) → DeskBegins facts old UnderWay between
      → GoesThrough facts between false broken → IsCall facts settle (settle_answered answer) broken new → Ended facts old false new
  ended_wrong old between broken new (Ok n) begins goes made =
      absurd (settles_nothing (state_of broken) (state_of new) n (ap (λ s. s.failed) goes.ends) made.step)
  ended_wrong old between broken new (Err e) begins goes made =
      let (works, begun) = begins.ends in
      let (failed, told) = failure_is_told (state_of broken) (state_of new) (number_of e) (ap (λ s. s.failed) goes.ends) made.step in
      record {
        commits = record {
          calls = all_calls old between broken new (refused (number_of e)) begins.calls goes.calls made;
          ends = inl failed;
        };
        quiet = told;
        list = ap (λ s. s.held.list) made.step.1 ∙ ap (λ s. s.held.list) goes.ends ∙ ap (λ s. s.held.list) begun;
      }

  pub ended_through : (old between through new : Parts D) (answer : Result ℕ HubRefusal) → DeskBegins facts old UnderWay between
      → GoesThrough facts between true through → IsCall facts settle (settle_answered answer) through new
      → Ended facts old (is_ok answer) new
  ended_through old between through new (Ok n) begins goes made =
      let (works, begun) = begins.ends in
      let before : state_of through ≡ with_through (with_begun (state_of old)) = goes.ends ∙ ap with_through begun in
      let step = subst (λ s. SettleStep s (settled_to n) (state_of new)) before made.step in
      let after = state_settled (state_of old) (state_of new) n works step in
      record {
        commits = record {
          calls = all_calls old between through new (settled_to n) begins.calls goes.calls made;
          ends = subst (λ s. length s.held.list ≤ s.held.settled) (sym after) (omega arith);
        };
        quiet = settled_is_quiet (state_of old) (state_of new) works after;
        list = ap (λ s. s.held.list) after;
      }
  ended_through old between through new (Err e) begins goes made =
      let (works, begun) = begins.ends in
      let before : state_of through ≡ with_through (with_begun (state_of old)) = goes.ends ∙ ap with_through begun in
      let step = subst (λ s. SettleStep s (refused (number_of e)) (state_of new)) before made.step in
      absurd (never_refused (state_of old) (state_of new) (number_of e) works step)
