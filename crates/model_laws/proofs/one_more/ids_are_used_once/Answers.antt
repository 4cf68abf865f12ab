use Rattle.model_laws.proofs.Same.{closed_ids_differ}
use Rattle.model_laws.proofs.one_more.ids_are_used_once.Goals as goal

pub returns : goal.returns
returns c = closed_ids_differ
