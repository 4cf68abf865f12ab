use Rattle.std.proofs.Common.{false, [], length, take}
use Rattle.span_flatten.specs.Deciding.{Decides, IsNoted}
use Rattle.span_flatten.specs.Sweeping.{is_from_start, kept, passes, IsActive}
use Rattle.span_flatten.proofs.active.Active.new.Given as goal

-- those among the mark operations so far that begin at the start of the text have begun
abbrev pub invariant-loop-i : goal.invariant-loop-i
invariant-loop-i l = record {
  active : IsActive l.active (length l.markings) (passes is_from_start (take l.i l.markings)) (λ i. false);
  noted : IsNoted l.active.deciding.comments [];
  deciding : Decides l.active.deciding l.markings (kept l.active);
}
