use Rattle.model_laws.proofs.Closed.{closed_orderly}
use Rattle.model_laws.proofs.Depth.{orderly_is_walk, orderly_walk_only}
use Rattle.model_laws.proofs.shape.the_walk_is_depth_first.Goals as goal

pub returns : goal.returns
returns c = record {
  is_walk = λ ops doc h. orderly_is_walk ops doc (closed_orderly ops doc h);
  only = λ ops doc cs h k. orderly_walk_only ops doc cs (closed_orderly ops doc h) k;
  is_walk_of_orderly = orderly_is_walk;
  only_of_orderly = orderly_walk_only;
}
