use Rattle.std.proofs.Common.{refl}
use Rattle.replica_core.proofs.RepeatLemmas.{put_back}
use Rattle.replica_core.proofs.repeats.Repeats.forget.Goals as goal

pub returns-clause-forgotten : goal.returns-clause-forgotten
returns-clause-forgotten c = λ ops op was at.
    put_back c.args.self.now (record { from = c.args.self.now.from; at = c.remove.new.self }) ops op c.args.index was at refl c.requires
    c.remove.ensures.updates.0
