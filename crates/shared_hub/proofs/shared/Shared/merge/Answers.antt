use Rattle.std.proofs.Common.{Err}
use Rattle.shared_hub.specs.declared.refusal.SharedRefusal.TheVariants.{Stopping}
use Rattle.shared_hub.proofs.MeetLemmas.{unless_stopping}
use Rattle.shared_hub.proofs.shared.Shared.merge.Goals as goal

-- what happened while the lock was held
pub returns-clause-call : goal.returns-clause-call
returns-clause-call g c other =
    let held = c.deref_mut.result.now in record {
      before = held.locked;
      after = c.merge-result.new.self.locked;
      makes = unless_stopping held.stopping c.merge-result.result (Err Stopping) c.merge-result.ensures.stopping c.merge-result.ensures.call other;
    }
