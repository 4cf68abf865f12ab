-- The device calls of a commit under way.
use Rattle.std.proofs.Common.{◌≡◌, ℕ, true, false, ap, ◌∙◌, subst, arith}
use Rattle.disk_trait.specs.declared.facts.DiskFacts.{Ghosts}
use Rattle.group_commit.specs.declared.phase.Phase.{Phase}
use Rattle.group_commit.specs.declared.phase.Phase.TheVariants.{Sync3}
use Rattle.op_model.specs.Machine.{State, device_step, refused, is_under_way, DeviceStep}
use Rattle.locked_replica.specs.Calls.{IsCall}
use Rattle.locked_replica.specs.Hub.{Parts, state_of}
use Rattle.locked_replica.specs.Steps.{stepped_in}
use Rattle.session_threads.specs.HubCalls.{CommitCalls, GoesThrough}
use Rattle.op_model.specs.Machine.{with_through}
use Rattle.session_threads.proofs.CallLemmas.{more_calls}
use Rattle.session_threads.proofs.CommitLemmas.{state_goes_on, state_fails}

-- the state after a call that failed
abbrev has_failed : State → State
has_failed s = record s { failed = true }

module _ {D : Type 0} (facts : Ghosts D) (old between new : Parts D) (before : CommitCalls facts 0 old between) (same : state_of between ≡ state_of old) where
  pub gone_through : (p : Phase) → p ≡ Sync3 → IsCall facts device_step (stepped_in p) between new → GoesThrough facts old true new
  gone_through p last made =
      let step : DeviceStep (state_of between) (stepped_in Sync3) (state_of new) =
      subst (λ q. DeviceStep (state_of between) (stepped_in q) (state_of new)) last made.step in
      record {
        calls = more_calls facts 0 0 old between new device_step (stepped_in p) before tt (omega arith) made;
        ends = step.2 ∙ ap with_through same;
      }

  pub gone_on : (p : Phase) → (p ≡ Sync3 → ⊥) → is_under_way (state_of old).commit ≡ true
      → IsCall facts device_step (stepped_in p) between new → CommitCalls facts 0 old new × (state_of new ≡ state_of old)
  gone_on p other under_way made =
      let goes : is_under_way (state_of between).commit ≡ true = ap (λ s. is_under_way s.commit) same ∙ under_way in (
        more_calls facts 0 0 old between new device_step (stepped_in p) before tt (omega arith) made,
        state_goes_on (state_of between) (state_of new) p goes other made.step ∙ same,
      )

  pub gone_wrong : (n : ℕ) → (state_of old).failed ≡ false → IsCall facts device_step (refused n) between new → GoesThrough facts old false new
  gone_wrong n works made =
      let worked : (state_of between).failed ≡ false = ap (λ s. s.failed) same ∙ works in
      record {
        calls = more_calls facts 0 0 old between new device_step (refused n) before tt (omega arith) made;
        ends = state_fails (state_of between) (state_of new) n worked made.step ∙ ap has_failed same;
      }
