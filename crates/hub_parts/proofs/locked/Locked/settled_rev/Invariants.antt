use Rattle.std.proofs.Common.{◌≡◌, ◌+◌, take, drop}
use Rattle.op_model.specs.Text.{rev}
use Rattle.hub_parts.proofs.locked.Locked.settled_rev.Given as goal

-- the settled operations of the document are counted, and those of it that weren't passed yet
abbrev pub invariant-loop-i : goal.invariant-loop-i
invariant-loop-i l = l.count ≡ rev (take l.self.replica.settled l.self.replica.list) l.doc + rev (drop l.i l.list) l.doc
