use Rattle.std.proofs.Common.{◌≡◌}
use Rattle.shared_hub.proofs.shared.Shared.acknowledge.Given as goal

-- the pass is as before
abbrev pub invariant-loop : goal.invariant-loop
invariant-loop g l = l.pass ≡ l.fn.pass
