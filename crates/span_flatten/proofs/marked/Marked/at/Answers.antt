use Rattle.std.proofs.Common.{length, take}
use Rattle.span_flatten.specs.Spots.{AreSpots}
use Rattle.span_flatten.proofs.AcrossLemmas.{at_border}
use Rattle.span_flatten.proofs.SpotLemmas.{spots_front}
use Rattle.span_flatten.proofs.marked.Marked.at.Goals as goal

pub returns : goal.returns
returns c = λ held news all spots border.
    let olds = c.args.past.now in
    let front : AreSpots held (take (length olds) c.args.spots.now) olds = spots_front held c.args.spots.now olds news (rw (← all) spots) in
    record {
      past = at_border held c.args.chunk (take (length olds) c.args.spots.now) olds c.in_ok-at.field-0 front border c.in_ok-at.ensures.active;
      present = at_border held c.args.chunk c.args.spots.now c.args.markings.now c.in_ok-at-2.field-0 spots border c.in_ok-at-2.ensures.active;
      decided = record {
        past = c.in_ok-at.ensures.deciding;
        present = c.in_ok-at-2.ensures.deciding;
        fresh = λ e. absurd (cc);
      };
    }
