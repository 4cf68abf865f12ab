use Rattle.std.proofs.Common.{length}
use Rattle.stream_list.specs.Passing.{Passed}
use Rattle.stream_list.proofs.passing.pass_pieces.Given as goal

-- the pieces before the rest were passed, and are in the list
abbrev pub invariant-loop-list : goal.invariant-loop-list
invariant-loop-list l = Passed l.format l.stream.items l.rest l.list l.fn.count l.left l.records

abbrev pub decreases-loop-list : goal.decreases-loop-list
decreases-loop-list l = length l.rest
