use Rattle.std.proofs.Common.{◌≤◌, length, drop}
use Rattle.piece_codec.specs.Fits.{AreScalars}
use Rattle.piece_codec.proofs.fits.scalars_fit.Given as goal

abbrev pub invariant-loop-i : goal.invariant-loop-i
invariant-loop-i l = record {
  within : l.i ≤ length l.values;
  rest : AreScalars (drop l.i l.values);
}

abbrev pub decreases-loop-i : goal.decreases-loop-i
decreases-loop-i l = l.i
