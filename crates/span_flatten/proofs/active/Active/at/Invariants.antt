use Rattle.std.proofs.Common.{length, take}
use Rattle.span_flatten.specs.Deciding.{Decides}
use Rattle.span_flatten.specs.Spots.{is_across, is_over}
use Rattle.span_flatten.specs.Sweeping.{kept, passes, IsActive}
use Rattle.span_flatten.proofs.active.Active.at.Given as goal

-- those of the mark operations so far that are across the beginning of the chunk have begun, and those that are over have ended
abbrev pub invariant-loop-i : goal.invariant-loop-i
invariant-loop-i l = record {
  active : IsActive l.active (length l.markings) (passes (is_across l.chunk) (take l.i l.spots)) (passes (is_over l.chunk) (take l.i l.spots));
  deciding : Decides l.active.deciding l.markings (kept l.active);
}
