use Rattle.std.proofs.Common.{◌≡◌, suc, ◌+◌, arith}
use Rattle.run_list.proofs.NextOnes.{goes_on_same, one_more_run}
use Rattle.run_list.proofs.bare_list.BareList.next.Goals as goal

pub returns-in_ok-op-in-Some-clause-runs : goal.returns-in_ok-op-in-Some-clause-runs
returns-in_ok-op-in-Some-clause-runs c = goes_on_same c.args.self.now c.args.i c.in-Some.value c.args.runs c.in-Some.ensures c.requires.within c.requires.runs

pub returns-in_ok-op-in-None-clause-runs : goal.returns-in_ok-op-in-None-clause-runs
returns-in_ok-op-in-None-clause-runs c =
    let one : c.args.runs + 1 ≡ suc c.args.runs = omega arith in
    one_more_run c.args.self.now c.args.i c.args.runs (c.args.runs + 1) c.requires.within c.in-None.ensures c.requires.runs one
