use Rattle.shared_hub.proofs.WatchLemmas.{rev_at, seen_at}
use Rattle.shared_hub.proofs.shared.Shared.watch.Goals as goal

-- what the last look found while the lock was held
pub returns-clause-rev : goal.returns-clause-rev
returns-clause-rev g c = rev_at _ _ _ _ c.watched.ensures.kept c.watched.ensures.watched

pub returns-clause-newer : goal.returns-clause-newer
returns-clause-newer g c = c.watched.ensures.watched.newer

pub returns-clause-nothing : goal.returns-clause-nothing
returns-clause-nothing g c = seen_at _ _ _ _ c.watched.ensures.kept c.watched.ensures.watched
