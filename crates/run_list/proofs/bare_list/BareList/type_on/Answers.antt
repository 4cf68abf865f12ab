use Rattle.std.proofs.Common.{sym, arith, rules}
use Rattle.run_list.proofs.Holding.{holds_next, marks_long}
use Rattle.run_list.proofs.Unrolling.{shown, are_runs, held_is}
use Rattle.run_list.proofs.bare_list.BareList.type_on.Goals as goal

pub invariant_of-self-2 : goal.invariant_of-self-2
invariant_of-self-2 c =
    let holds = shown _ _ _ c.args.self.now c.self.invariant c.self.view_is in
    let typed = c.requires.1 in
    are_runs _ _ _ _ (holds_next _ _ _ _ c.requires.0 c.push.new.self.items holds typed.fits typed.on (rw (sym typed.types) (search rules)) (omega (arith, marks_long _ _ _ _ holds)))

pub returns-clause-ok : goal.returns-clause-ok
returns-clause-ok c op typed =
    let holds = shown _ _ _ c.args.self.now c.self.invariant c.self.view_is in
    held_is _ _ _ _ (holds_next _ _ _ _ op c.push.new.self.items holds typed.fits typed.on (rw (sym typed.types) (search rules)) (omega (arith, marks_long _ _ _ _ holds)))
