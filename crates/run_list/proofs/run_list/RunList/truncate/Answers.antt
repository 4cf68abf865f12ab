use Rattle.run_list.proofs.Telling.{shown, are_told, told_is, front_told}
use Rattle.run_list.proofs.run_list.RunList.truncate.Goals as goal

pub invariant_of-self : goal.invariant_of-self
invariant_of-self c =
    are_told _ _ _ (front_told _ _ _ c.args.n _ _ (shown _ _ c.args.self.now c.self.invariant c.self.view_is) c.truncate.ensures c.truncate-2.ensures)

pub returns : goal.returns
returns c =
    told_is _ _ _ (front_told _ _ _ c.args.n _ _ (shown _ _ c.args.self.now c.self.invariant c.self.view_is) c.truncate.ensures c.truncate-2.ensures)
