use Rattle.std.proofs.Common.{◌≡◌, ◌++◌, map}
use Rattle.std.specs.Vec.Iter.{into_iter_items}
use Rattle.span_flatten.specs.Sweeping.{forward_span}
use Rattle.span_flatten.proofs.sweep.spans_of.Given as goal

-- the spans of those that were passed, and then those of the others, are all
abbrev pub invariant-loop-run : goal.invariant-loop-run
invariant-loop-run l = l.spans.items ++ map forward_span (into_iter_items l.run-iterator) ≡ map forward_span l.fn.runs.items
