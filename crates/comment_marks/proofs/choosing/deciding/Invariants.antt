use Rattle.std.proofs.Common.{◌≡◌, ◌≤◌, length, drop, map}
use Rattle.std.specs.Option.{option_copied}
use Rattle.comment_marks.specs.Standing.{deciding}
use Rattle.comment_marks.proofs.choosing.deciding.Given as goal

abbrev pub invariant-loop-i : goal.invariant-loop-i
invariant-loop-i l = record {
  within : l.i ≤ length l.set;
  best : option_copied l.best ≡ deciding (map (λ m. m.now) (drop l.i l.set)) l.key;
}

abbrev pub decreases-loop-i : goal.decreases-loop-i
decreases-loop-i l = l.i
