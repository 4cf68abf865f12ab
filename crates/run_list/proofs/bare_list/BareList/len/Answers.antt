use Rattle.std.proofs.Common.{◌∙◌, ap, length, arith}
use Rattle.std.specs.Prelude.{None}
use Rattle.run_list.proofs.Parts.{length-marks}
use Rattle.run_list.proofs.Unrolling.{shown}
use Rattle.run_list.proofs.bare_list.BareList.len.Goals as goal

pub returns : goal.returns
returns c =
    let holds = shown _ _ _ c.args.self.now c.self.invariant c.self.view_is in
    let long = ap length holds.marks_so ∙ length-marks None c.args.self.now in
    omega arith
