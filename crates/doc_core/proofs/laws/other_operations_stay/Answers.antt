use Rattle.doc_core.proofs.FittingLemmas.{document_stays, draft_stays}
use Rattle.doc_core.proofs.laws.other_operations_stay.Goals as goal

pub returns-clause-document : goal.returns-clause-document
returns-clause-document c = document_stays

pub returns-clause-draft : goal.returns-clause-draft
returns-clause-draft c = draft_stays
