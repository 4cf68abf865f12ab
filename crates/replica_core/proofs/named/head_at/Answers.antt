use Rattle.std.proofs.Common.{get_or, length}
use Rattle.std.proofs.lemmas.List.{get_or_default}
use Rattle.replica_core.proofs.HeadLemmas.{head_at_place}
use Rattle.replica_core.proofs.PlaceLemmas.{below_at}
use Rattle.replica_core.proofs.named.head_at.Goals as goal

pub head-requires : goal.head-requires
head-requires c =
    below_at (length c.args.ops.now) c.args.places.now c.args.k (get_or c.args.places.now c.args.k 0) c.requires.below c.requires.there
    (get_or_default c.args.places.now c.args.k 0 (get_or c.args.places.now c.args.k 0) c.requires.there)

pub returns : goal.returns
returns c =
    head_at_place c.args.ops.now c.args.places.now c.args.k (get_or c.args.places.now c.args.k 0) c.head.result c.requires.below c.requires.there
    (get_or_default c.args.places.now c.args.k 0 (get_or c.args.places.now c.args.k 0) c.requires.there) c.head.ensures
