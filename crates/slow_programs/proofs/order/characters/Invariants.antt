use Rattle.std.proofs.Common.{◌≡◌, ◌≤◌, length, drop}
use Rattle.op_model.specs.Characters.{characters}
use Rattle.slow_programs.proofs.order.characters.Given as goal

abbrev pub invariant-loop-i : goal.invariant-loop-i
invariant-loop-i l = record {
  within : l.i ≤ length l.ops;
  found : l.found.items ≡ characters (drop l.i l.ops) l.doc;
}

abbrev pub decreases-loop-i : goal.decreases-loop-i
decreases-loop-i l = l.i
