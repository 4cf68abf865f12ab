use Rattle.std.proofs.Common.{◌+◌, ap}
use Rattle.span_flatten.specs.Listing.{listed_steps}
use Rattle.span_flatten.proofs.change_sweep.ChangeSweep.new.Goals as goal

pub returns : goal.returns
returns c = λ cells. record {
  here = λ is once. rw c.older.ensures at (c.in_ok-new.ensures cells);
  told = λ before more doc are all noted. c.new-2.ensures.items;
  few = ap (λ ss. listed_steps ss + 1048576) c.new-2.ensures.items;
}
