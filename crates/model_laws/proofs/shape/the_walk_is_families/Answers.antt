use Rattle.model_laws.proofs.Closed.{closed_orderly}
use Rattle.model_laws.proofs.Family.{orderly_families, orderly_falling}
use Rattle.model_laws.proofs.shape.the_walk_is_families.Goals as goal

pub returns : goal.returns
returns c = record {
  families = λ ops doc parent h. orderly_families ops doc parent (closed_orderly ops doc h);
  falling = λ ops doc parent h. orderly_falling ops doc parent (closed_orderly ops doc h);
  families_of_orderly = orderly_families;
  falling_of_orderly = orderly_falling;
}
