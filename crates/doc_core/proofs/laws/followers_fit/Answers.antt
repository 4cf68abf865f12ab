use Rattle.model_laws.proofs.Closed.{follows_fits}
use Rattle.doc_core.proofs.FittingLemmas.{made_fit}
use Rattle.doc_core.proofs.laws.followers_fit.Goals as goal

pub returns-clause-one : goal.returns-clause-one
returns-clause-one c = follows_fits

pub returns-clause-edits : goal.returns-clause-edits
returns-clause-edits c = made_fit
