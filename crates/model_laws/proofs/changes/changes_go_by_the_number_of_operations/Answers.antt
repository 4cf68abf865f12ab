use Rattle.model_laws.proofs.OneDocument.{changes_of_doc, changes_since_rev, nothing_came}
use Rattle.model_laws.proofs.changes.changes_go_by_the_number_of_operations.Goals as goal

pub returns : goal.returns
returns c = record { document = changes_of_doc; number = changes_since_rev; none = nothing_came }
