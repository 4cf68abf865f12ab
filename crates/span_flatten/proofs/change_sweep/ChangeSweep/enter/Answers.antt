use Rattle.std.proofs.Common.{◌≡◌, ◌-◌, ◌++◌, length, drop, sym, ap, ◌∙◌}
use Rattle.std.proofs.lemmas.List.{take-append-drop}
use Rattle.span_flatten.proofs.change_sweep.ChangeSweep.enter.Goals as goal

pub returns-then-self : goal.returns-then-self
returns-then-self c = λ held since are plan within was. record {
  marked = was.here c.if-self.true;
  told = was.told;
  few = was.few;
}

pub returns : goal.returns
returns c = λ held since are plan within was.
    let ms = c.args.markings.now in
    let news = drop (length ms - since.marked) ms in
    let all : ms ≡ c.args.past.now ++ news = sym (ap (λ olds. olds ++ news) are ∙ take-append-drop (length ms - since.marked) ms) in
    record {
      marked = λ once. rw are at (c.in_ok-self.ensures held news all (rw c.deref.ensures.value plan.spots) (record { once = once; within = within }));
      told = was.told;
      few = was.few;
    }
