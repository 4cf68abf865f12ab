use Rattle.std.proofs.Common.{Ok, ap}
use Rattle.stream_list.specs.Fronts.{BeginsWithNone}
use Rattle.stream_list.proofs.PassingLemmas.{passed_more, never_behind, never_so_many}
use Rattle.stream_list.proofs.passing.pass_pieces.Goals as goal

pub returns-then-front-left-clause-none : goal.returns-then-front-left-clause-none
returns-then-front-left-clause-none c = λ is.
    let at = c.loop-list in
    let puts = rw c.in-Some.is at c.in_ok-front.ensures.found in
    never_so_many c.args.format c.args.stream.now.items at.rest.now at.list c.args.count at.left at.records c.in-Some.front at.invariant puts.begins
    c.if-front-left.true

pub loop-list-preserved : goal.loop-list-preserved
loop-list-preserved c =
    let at = c.loop-list in
    let puts = rw c.in-Some.is at c.in_ok-front.ensures.found in
    passed_more c.args.format c.args.stream.now.items at.rest.now c.split_at.result.1.now at.list c.put_front.new.list c.args.count at.left at.records c.in-Some.front
    at.invariant puts c.if-front-left.false c.split_at.ensures.back

pub returns-then-rest-ge-LONGEST-clause-none : goal.returns-then-rest-ge-LONGEST-clause-none
returns-then-rest-ge-LONGEST-clause-none c = λ is.
    let at = c.loop-list in
    let none : BeginsWithNone c.args.format at.rest.now = c.in_ok-front.ensures.none (ap (λ found. Ok found) c.in_default.is) in
    never_behind c.args.format c.args.stream.now.items at.rest.now at.list c.args.count at.left at.records at.invariant c.if-rest-ge-LONGEST.true none
