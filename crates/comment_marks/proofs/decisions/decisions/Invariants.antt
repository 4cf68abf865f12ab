use Rattle.std.proofs.Common.{◌≡◌, ◌≤◌, length, drop, map}
use Rattle.comment_marks.specs.Decisions.{decisions}
use Rattle.comment_marks.proofs.decisions.decisions.Given as goal

abbrev pub invariant-loop-i : goal.invariant-loop-i
invariant-loop-i l = record {
  within : l.i ≤ length l.set;
  entries : l.found.entries ≡ decisions (map (λ m. m.now) (drop l.i l.set));
}

abbrev pub decreases-loop-i : goal.decreases-loop-i
decreases-loop-i l = l.i
