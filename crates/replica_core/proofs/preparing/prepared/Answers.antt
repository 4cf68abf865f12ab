use Rattle.model_laws.proofs.RoomInTurn.{action_not_refused}
use Rattle.replica_core.proofs.preparing.prepared.Goals as goal

pub prepared_several-requires-clause-due : goal.prepared_several-requires-clause-due
prepared_several-requires-clause-due c =
    action_not_refused c.args.ops.now c.args.known.now.replica c.args.action.now c.requires.counted.closed c.requires.due
