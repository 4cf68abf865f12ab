use Rattle.std.proofs.Common.{◌≡◌, ◌++◌, take, drop}
use Rattle.op_model.specs.Characters.{in_order}
use Rattle.slow_programs.proofs.order.index_in_order.Given as goal

-- the character goes somewhere behind those that were passed
abbrev pub invariant-loop-i : goal.invariant-loop-i
invariant-loop-i l = in_order l.character l.characters ≡ take l.i l.characters ++ in_order l.character (drop l.i l.characters)
