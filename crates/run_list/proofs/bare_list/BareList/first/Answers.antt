use Rattle.std.proofs.Common.{length, get_or, ap, ◌∙◌, arith}
use Rattle.run_list.proofs.NextOnes.{begins_run}
use Rattle.run_list.proofs.Unrolling.{shown}
use Rattle.run_list.proofs.bare_list.BareList.first.Goals as goal

pub get-requires : goal.get-requires
get-requires c =
    let holds = shown _ _ _ c.args.self.now c.self.invariant c.self.view_is in
    let begins = begins_run _ _ _ _ c.args.i c.args.runs holds c.requires.within c.requires.begins c.requires.runs in
    omega (arith, begins.within, ap length c.as_slice.ensures)

pub returns-in_err-op-clause-few : goal.returns-in_err-op-clause-few
returns-in_err-op-clause-few c =
    let holds = shown _ _ _ c.args.self.now c.self.invariant c.self.view_is in
    let begins = begins_run _ _ _ _ c.args.i c.args.runs holds c.requires.within c.requires.begins c.requires.runs in
    omega (arith, begins.within, begins.few)

pub returns-clause-few : goal.returns-clause-few
returns-clause-few c =
    let holds = shown _ _ _ c.args.self.now c.self.invariant c.self.view_is in
    let begins = begins_run _ _ _ _ c.args.i c.args.runs holds c.requires.within c.requires.begins c.requires.runs in
    omega (arith, begins.within, begins.few)

pub returns-clause-op : goal.returns-clause-op
returns-clause-op c =
    let holds = shown _ _ _ c.args.self.now c.self.invariant c.self.view_is in
    let begins = begins_run _ _ _ _ c.args.i c.args.runs holds c.requires.within c.requires.begins c.requires.runs in
    c.in_ok-op.ensures ∙ ap (λ fs. get_or fs c.args.runs c.in_ok-op.op) c.as_slice.ensures ∙ begins.first c.in_ok-op.op
