use Rattle.std.proofs.Common.{◌≤◌, length, drop}
use Rattle.change_codec.specs.Fits.{HaveSixteen}
use Rattle.change_codec.proofs.fits.deps_fit.Given as goal

abbrev pub invariant-loop-i : goal.invariant-loop-i
invariant-loop-i l = record {
  within : l.i ≤ length l.entries;
  rest : HaveSixteen (drop l.i l.entries);
}

abbrev pub decreases-loop-i : goal.decreases-loop-i
decreases-loop-i l = l.i
