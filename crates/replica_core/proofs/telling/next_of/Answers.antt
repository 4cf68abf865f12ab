use Rattle.std.proofs.Common.{◌∙◌, refl, sym}
use Rattle.replica_core.proofs.NextLemmas.{passed_by, next_there, next_none, next_of_none}
use Rattle.replica_core.proofs.OwnLemmas.{places_rise}
use Rattle.replica_core.proofs.telling.next_of.Goals as goal

pub count_below-requires : goal.count_below-requires
count_below-requires c = rw (c.in-Some.ensures, c.requires.index.places c.args.replica) (places_rise c.args.ops.now c.args.replica)

pub returns-then-at-places : goal.returns-then-at-places
returns-then-at-places c =
    let are = c.in-Some.ensures ∙ c.requires.index.places c.args.replica in
    let passed = passed_by c.args.peer.now c.args.ops.now c.args.replica c.args.from c.max-at.result c.count_below.result c.get-known.result c.in-Some.places.now
    c.requires.closed are c.count_below.ensures.bound c.count_below.ensures.place c.get-known.ensures.value c.max-at.ensures in
    rw are (next_there c.args.peer.now c.args.ops.now c.args.replica c.args.from c.max-at.result _ passed (rw are at c.if-at-places.true) refl)

pub returns-else-at-places : goal.returns-else-at-places
returns-else-at-places c =
    let are = c.in-Some.ensures ∙ c.requires.index.places c.args.replica in
    let passed = passed_by c.args.peer.now c.args.ops.now c.args.replica c.args.from c.max-at.result c.count_below.result c.get-known.result c.in-Some.places.now
    c.requires.closed are c.count_below.ensures.bound c.count_below.ensures.place c.get-known.ensures.value c.max-at.ensures in
    rw c.len.ensures (next_none c.args.peer.now c.args.ops.now c.args.replica c.args.from c.max-at.result passed (rw are at c.if-at-places.false))

pub returns-in-None : goal.returns-in-None
returns-in-None c =
    rw c.len-in-None.ensures
    (next_of_none c.args.peer.now c.args.ops.now c.args.replica c.args.from c.requires.closed (sym (c.requires.index.places c.args.replica) ∙ c.in-None.ensures))
