use Rattle.std.proofs.Common.{◌+◌, ap, map}
use Rattle.span_flatten.specs.Listing.{listed}
use Rattle.span_flatten.specs.Sweeping.{forward_span, last_comments}
use Rattle.span_flatten.proofs.PassLemmas.{before_cells}
use Rattle.span_flatten.proofs.sweep.Sweep.new.Goals as goal

pub returns : goal.returns
returns c = λ cells. record {
  active = before_cells c.in_ok-new.field-0 cells c.args.markings.now c.in_ok-new.ensures.active;
  ready = record {
    deciding = c.in_ok-new.ensures.deciding;
    noted = rw (ap (λ rs. last_comments (map forward_span rs)) c.new-2.ensures.items) c.in_ok-new.ensures.noted;
    fresh = λ e. absurd (cc);
  };
  few = ap (λ rs. listed (map forward_span rs) + 1048576) c.new-2.ensures.items;
  runs = ap (map forward_span) c.new-2.ensures.items;
}
