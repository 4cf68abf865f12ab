use Rattle.std.proofs.Common.{refl, arith}
use Rattle.run_list.proofs.Appending.{going_begins, all_put, none_left}
use Rattle.run_list.proofs.NextOnes.{copied}
use Rattle.run_list.proofs.bare_list.BareList.copy_each.Goals as goal

pub loop-i-init : goal.loop-i-init
loop-i-init c = (going_begins _ _ _ refl, c.requires.last)

pub loop-i-preserved : goal.loop-i-preserved
loop-i-preserved c =
    copied c.args.self.now c.args.ops.now c.loop-i.self c.copy_one.new.self c.args.n c.loop-i.i c.loop-i.invariant.0 (omega arith)
    c.in_ok-copy_one.ensures.ok

pub returns-clause-ok : goal.returns-clause-ok
returns-clause-ok c = all_put _ _ _ _ c.loop-i.invariant.0 (none_left c.args.ops.now c.loop-i.i (omega arith))
