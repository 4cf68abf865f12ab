use Rattle.std.proofs.Common.{arith}
use Rattle.run_list.proofs.Holding.{marks_long}
use Rattle.run_list.proofs.Unrolling.{shown}
use Rattle.run_list.proofs.bare_list.BareList.has_room_for.Goals as goal

pub returns-then-held-le-MOST_BYTES-clause-few : goal.returns-then-held-le-MOST_BYTES-clause-few
returns-then-held-le-MOST_BYTES-clause-few c = λ _.
    let holds = shown _ _ _ c.args.self.now c.self.invariant c.self.view_is in
    omega (arith, marks_long _ _ _ _ holds, c.if-len-ge-MOST_OPERATIONS.false)
