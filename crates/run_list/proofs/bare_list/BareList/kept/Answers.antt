use Rattle.run_list.proofs.Found.{few}
use Rattle.run_list.proofs.Unrolling.{shown}
use Rattle.run_list.proofs.bare_list.BareList.kept.Goals as goal

pub returns-clause-few : goal.returns-clause-few
returns-clause-few c =
    let holds = shown _ _ _ c.args.self.now c.self.invariant c.self.view_is in
    few _ _ _ _ holds
