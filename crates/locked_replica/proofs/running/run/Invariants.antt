use Rattle.std.proofs.Common.{◌≡◌, ◌≤◌, length, vec_capacity}
use Rattle.locked_replica.specs.Run.{Replied}
use Rattle.locked_replica.proofs.running.run.Given as goal

-- the calls so far are a run with their replies, and there is room for those that are left
abbrev pub invariant-loop-step : goal.invariant-loop-step
invariant-loop-step g l =
    record {
      count : length l.replies.items ≡ l.step-index;
      room : length l.steps ≤ vec_capacity l.replies;
      replied : Replied g.D.DiskFacts l.fn.hub l.steps l.replies.items l.hub;
    }
