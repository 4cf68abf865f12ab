use Rattle.std.proofs.Common.{drop}
use Rattle.replica_core.specs.Turns.{IsMaking}
use Rattle.replica_core.proofs.preparing.prepared_several.Given as goal

-- those that were passed are made, and the others are to be made
abbrev pub invariant-loop-change : goal.invariant-loop-change
invariant-loop-change l = IsMaking l.copying l.ops l.known.replica l.action.doc l.action.token l.action.changes (drop l.change-index l.others)
