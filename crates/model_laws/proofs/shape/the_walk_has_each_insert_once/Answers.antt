use Rattle.model_laws.proofs.Closed.{closed_orderly}
use Rattle.model_laws.proofs.Family.{orderly_members, orderly_once}
use Rattle.model_laws.proofs.shape.the_walk_has_each_insert_once.Goals as goal

pub returns : goal.returns
returns c = record {
  members = λ ops doc id h. orderly_members ops doc id (closed_orderly ops doc h);
  once = λ ops doc id h. orderly_once ops doc id (closed_orderly ops doc h);
  members_of_orderly = orderly_members;
  once_of_orderly = orderly_once;
}
