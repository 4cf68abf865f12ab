-- The begins so far found no memory.
use Rattle.std.proofs.Common.{◌≡◌, List}
use Rattle.op_model.specs.Machine.{Event, Answer, begin, refused}
use Rattle.locked_replica.specs.Hub.{state_of}
use Rattle.locked_replica.specs.Run.{Calls}
use Rattle.session_threads.specs.HubCalls.{AreTimes}
use Rattle.session_threads.proofs.committing.begin.Given as goal

abbrev pub invariant-loop : goal.invariant-loop
invariant-loop g l =
    (tries : List (Event × Answer)) × AreTimes l.counter (begin, refused 1) tries
    × Calls g.D.DiskFacts l.initial.hub tries l.hub × (state_of l.hub ≡ state_of l.initial.hub)
