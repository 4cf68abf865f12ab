use Rattle.std.proofs.Common.{◌+◌, map, ap, sym, ◌∙◌}
use Rattle.std.proofs.lemmas.Result.{on_ok_weaker}
use Rattle.span_flatten.specs.Formatting.{marks_in}
use Rattle.span_flatten.specs.Listing.{listed}
use Rattle.span_flatten.specs.Picking.{picked}
use Rattle.span_flatten.specs.Sweeping.{forward_span, kept}
use Rattle.span_flatten.proofs.BackLemmas.{back_joined, comments_extended, last_extended, last_same}
use Rattle.span_flatten.proofs.ListedLemmas.{listed_extended}
use Rattle.span_flatten.proofs.sweep.Sweep.see.Goals as goal

pub returns-then-not-self-clause-seen : goal.returns-then-not-self-clause-seen
returns-then-not-self-clause-seen c =
    let marks = marks_in (picked c.args.markings.now (kept c.args.self.now.active)) in
    let before = map forward_span c.args.self.now.runs.items in
    on_ok_weaker c.join.result (λ is. λ ready. rw c.if-cell.false (is ∙ sym (back_joined c.args.cell.now.value marks before (last_same marks before (ready.fresh c.if-not-self.true)))))
    c.join.ensures.joined

pub returns-then-not-self-clause-ready : goal.returns-then-not-self-clause-ready
returns-then-not-self-clause-ready c =
    let marks = marks_in (picked c.args.markings.now (kept c.args.self.now.active)) in
    let before = map forward_span c.args.self.now.runs.items in
    on_ok_weaker c.join.result (λ is. λ ready. record {
      deciding = ready.deciding;
      noted = rw is (rw (comments_extended c.args.cell.now.value before) ready.noted);
      fresh = λ e. rw is (last_extended c.args.cell.now.value marks before (ready.fresh e));
    }) c.join.ensures.joined

pub returns-then-not-self-clause-few : goal.returns-then-not-self-clause-few
returns-then-not-self-clause-few c =
    let before = map forward_span c.args.self.now.runs.items in
    on_ok_weaker c.join.result (λ is. ap (λ ss. listed ss + c.args.self.now.left) is
    ∙ ap (λ n. n + c.args.self.now.left) (listed_extended c.args.cell.now.value before)) c.join.ensures.joined

pub returns-then-not-self-clause-listing : goal.returns-then-not-self-clause-listing
returns-then-not-self-clause-listing c = λ is. absurd (c.join.ensures.memory is)
