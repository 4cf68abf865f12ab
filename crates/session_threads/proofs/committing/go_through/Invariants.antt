-- The device calls so far left the machine's state, and fewer are left.
use Rattle.std.proofs.Common.{◌≡◌}
use Rattle.locked_replica.specs.Hub.{state_of}
use Rattle.session_threads.proofs.CallsLeft.{calls_left}
use Rattle.session_threads.specs.HubCalls.{CommitCalls}
use Rattle.session_threads.proofs.committing.go_through.Given as goal

abbrev pub invariant-loop-phase : goal.invariant-loop-phase
invariant-loop-phase g l = CommitCalls g.D.DiskFacts 0 l.initial.hub l.hub × (state_of l.hub ≡ state_of l.initial.hub)

abbrev pub decreases-loop-phase : goal.decreases-loop-phase
decreases-loop-phase g l = calls_left l.hub.store
