use Rattle.std.proofs.Common.{◌≡◌, drop}
use Rattle.op_model.specs.Text.{is_removed}
use Rattle.op_model.specs.Made.{behind_visible}
use Rattle.slow_programs.proofs.placing.behind.Given as goal

abbrev pub invariant-loop-i : goal.invariant-loop-i
invariant-loop-i l =
    behind_visible (is_removed l.ops l.doc) l.count l.walked ≡ behind_visible (is_removed l.ops l.doc) l.left (drop l.i l.walked)
