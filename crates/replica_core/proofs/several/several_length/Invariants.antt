use Rattle.std.proofs.Common.{◌≡◌, ◌+◌, ◌<◌, ◌^◌, length, drop}
use Rattle.fixed_numbers.specs.declared.limits.TheConstants.{MAX_PENDING}
use Rattle.op_ids.specs.Clock.{advanced}
use Rattle.op_model.specs.Actions.{all_wait_at_most, refused_in_turn, refused_several}
use Rattle.op_model.specs.Causality.{clock_of}
use Rattle.replica_core.specs.Turns.{room_of}
use Rattle.replica_core.proofs.several.several_length.Given as goal

-- what refuses those that are left refuses all, and those that passed wait with their bytes
abbrev pub invariant-loop-i : goal.invariant-loop-i
invariant-loop-i l = record {
  few : l.turn.shown + l.turn.operations < 2 ^ 64;
  rest : refused_several l.ops l.known.replica l.action
      ≡ refused_in_turn (l.i + 1) (room_of l.turn) (length (advanced (clock_of l.ops) l.known.replica)) l.action.token l.turn.shown
      (drop l.i l.others);
  waiting : l.turn.waiting + all_wait_at_most (length (advanced (clock_of l.ops) l.known.replica)) l.action.token l.action.changes
      ≡ MAX_PENDING + all_wait_at_most (length (advanced (clock_of l.ops) l.known.replica)) l.action.token (drop l.i l.others);
}
