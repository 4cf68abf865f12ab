use Rattle.shared_hub.proofs.WatchLemmas.{several_at, several_look, several_watched}
use Rattle.shared_hub.proofs.shared.Shared.watch_several.Goals as goal

-- what the look found while the lock was held
pub returns-clause-watched : goal.returns-clause-watched
returns-clause-watched g c = several_watched _ _ _ c.watched_of.ensures.told

pub returns-clause-rev : goal.returns-clause-rev
returns-clause-rev g c = several_at _ _ _ c.watched_of.ensures.kept c.watched_of.ensures.told

pub returns-clause-looks : goal.returns-clause-looks
returns-clause-looks g c = several_look _ _ _ _ c.watched_of.ensures.kept c.watched_of.ensures.looks
