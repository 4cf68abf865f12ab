use Rattle.std.proofs.Common.{drop}
use Rattle.hub_parts.specs.Adding.{IsPutting}
use Rattle.hub_parts.proofs.waiting.put_changes.Given as goal

-- those that were passed are put, and the others' operations are left
abbrev pub invariant-loop-change : goal.invariant-loop-change
invariant-loop-change l =
    IsPutting l.fn.waiting.items l.waiting.items l.ops l.rest l.action.doc l.action.token l.action.changes (drop l.change-index l.others)
