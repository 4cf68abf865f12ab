use Rattle.std.proofs.Common.{◌≡◌, ◌+◌, drop}
use Rattle.op_model.specs.Places.{index_of}
use Rattle.slow_programs.proofs.formatting.index_of.Given as goal

abbrev pub invariant-loop-i : goal.invariant-loop-i
invariant-loop-i l = index_of l.id l.characters ≡ l.i + index_of l.id (drop l.i l.characters)
