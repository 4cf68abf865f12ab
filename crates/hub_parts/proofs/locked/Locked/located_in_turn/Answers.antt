use Rattle.std.proofs.Common.{rules, ◌≡◌, ◌+◌, [], ◌∷◌, ◌++◌}
use Rattle.op_model.specs.Lasting.{at_of}
use Rattle.placed_edits.specs.Placed.{located, located_in_turn, spots_at}
use Rattle.hub_parts.proofs.AskedLemmas.{next_located}
use Rattle.hub_parts.proofs.locked.Locked.located_in_turn.Goals as goal

pub loop-i-preserved : goal.loop-i-preserved
loop-i-preserved c =
    let at = at_of c.args.self.now.replica.list c.args.first.now.doc in
    let put : c.push-in-loop-i.new.self.items ≡ c.loop-i.done.items ++ c.in_ok-change-2.change ∷ [] = search rules in
    let made : c.in_ok-change-2.change ≡ located at c.loop-i.done.items c.index-others-i.result (spots_at (c.loop-i.i + 1) c.args.placed.now.spots) =
    search rules in
    rw put
    (next_located at (located_in_turn at [] (c.args.first.now.change ∷ c.args.others.now) c.args.placed.now.spots) c.loop-i.done.items c.args.others.now
    c.args.placed.now.spots c.loop-i.i c.index-others-i.result c.in_ok-change-2.change c.loop-i-test.true c.index-others-i.is made c.loop-i.invariant)
