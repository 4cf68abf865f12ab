use Rattle.model_laws.proofs.Marked.{same_walk, same_visible, same_text, same_rev}
use Rattle.model_laws.proofs.same_operations.same_operations_same_text.Goals as goal

pub returns : goal.returns
returns c = record {
  walk = λ a b doc closed too same. same_walk a b closed too same doc;
  visible = λ a b doc closed too same. same_visible a b closed too same doc;
  text = λ a b doc closed too same. same_text a b closed too same doc;
  rev = λ a b doc closed too same. same_rev a b closed too same doc;
}
