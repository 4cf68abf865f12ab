use Rattle.std.proofs.Common.{◌≡◌, ◌∙◌, sym}
use Rattle.replica_core.specs.Makers.{places_from}
use Rattle.replica_core.proofs.OwnLemmas.{places_rise, counted_below, count_nothing}
use Rattle.replica_core.proofs.index.Index.count_before.Goals as goal

pub count_below-requires : goal.count_below-requires
count_below-requires c = rw (c.in-Some.ensures, c.requires.places c.args.replica) (places_rise c.args.ops.now c.args.replica)

pub returns-in-Some : goal.returns-in-Some
returns-in-Some c =
    let places : c.in-Some.places.now ≡ places_from 0 c.args.ops.now c.args.replica = c.in-Some.ensures ∙ c.requires.places c.args.replica in
    counted_below c.args.ops.now c.args.replica c.args.end c.count_below.result (rw places at c.count_below.ensures.bound) (rw places at c.count_below.ensures.place)

pub returns-in-None : goal.returns-in-None
returns-in-None c =
    sym (count_nothing c.args.ops.now c.args.replica c.args.end (sym (c.requires.places c.args.replica) ∙ c.in-None.ensures))
