use Rattle.doc_core.proofs.NamingLemmas.{edit_there, fits_there}
use Rattle.doc_core.proofs.laws.fitting_names_are_there.Goals as goal

pub returns-clause-one : goal.returns-clause-one
returns-clause-one c = fits_there

pub returns-clause-edit : goal.returns-clause-edit
returns-clause-edit c = edit_there
