use Rattle.std.proofs.Common.{◌≡◌, ◌++◌, take, drop}
use Rattle.op_model.specs.Spans.{with_number}
use Rattle.slow_programs.proofs.rising.place.Given as goal

abbrev pub invariant-loop-i : goal.invariant-loop-i
invariant-loop-i l = with_number l.id l.ids ≡ take l.i l.ids ++ with_number l.id (drop l.i l.ids)
