use Rattle.span_flatten.proofs.PassLemmas.{before_cells}
use Rattle.span_flatten.proofs.marked.Marked.new.Goals as goal

pub returns : goal.returns
returns c = λ cells. record {
  past = before_cells c.in_ok-new.field-0 cells c.args.past.now c.in_ok-new.ensures.active;
  present = before_cells c.in_ok-new-2.field-0 cells c.args.markings.now c.in_ok-new-2.ensures.active;
  decided = record {
    past = c.in_ok-new.ensures.deciding;
    present = c.in_ok-new-2.ensures.deciding;
    fresh = λ e. absurd (cc);
  };
}
