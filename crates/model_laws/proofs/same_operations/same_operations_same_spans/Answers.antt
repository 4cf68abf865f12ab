use Rattle.model_laws.proofs.Marked.{same_spans}
use Rattle.model_laws.proofs.same_operations.same_operations_same_spans.Goals as goal

pub returns : goal.returns
returns c = λ a b doc closed too same. same_spans a b closed too same doc
