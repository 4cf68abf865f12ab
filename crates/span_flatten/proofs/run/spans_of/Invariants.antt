use Rattle.std.proofs.Common.{◌≡◌, ◌++◌, map}
use Rattle.std.specs.Vec.Iter.{into_iter_items}
use Rattle.span_flatten.specs.Runs.{span_of, spans_of_runs}
use Rattle.span_flatten.proofs.run.spans_of.Given as goal

-- the spans of those that were passed, and then those of the others, are all
abbrev pub invariant-loop-run : goal.invariant-loop-run
invariant-loop-run l = l.spans.items ++ map span_of (into_iter_items l.run-iterator) ≡ spans_of_runs l.fn.runs.items
