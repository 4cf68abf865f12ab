use Rattle.std.proofs.Common.{◌≡◌, drop}
use Rattle.causal_sync.specs.Sent.{sent}
use Rattle.causal_sync.proofs.sent.clock_with.Given as goal

-- the clock so far, with the operations that are left, is that of all of them
abbrev pub invariant-loop-op : goal.invariant-loop-op
invariant-loop-op l = sent l.clock (drop l.op-index l.ops) ≡ sent l.base l.ops
