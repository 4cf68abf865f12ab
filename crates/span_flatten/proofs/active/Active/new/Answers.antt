use Rattle.std.proofs.Common.{false, [], length, take, sym, refl, ◌∙◌}
use Rattle.span_flatten.specs.Sweeping.{is_from_start, passes}
use Rattle.span_flatten.proofs.ActiveLemmas.{active_same}
use Rattle.span_flatten.proofs.IndexLemmas.{active_begun, active_not_begun}
use Rattle.span_flatten.proofs.active.Active.new.Goals as goal
use Rattle.span_flatten.proofs.active.Active.new.Goals.{then-begins_text+in_ok-begin, else-begins_text}

pub loop-i-init : goal.loop-i-init
loop-i-init c = record {
  active = active_same c.in_ok-active.active (length c.args.markings.now) (λ i. false) (λ i. false) (passes is_from_start []) (λ i. false) (λ i. refl)
      (λ i. refl) c.in_ok-active.ensures.active;
  noted = c.in_ok-active.ensures.noted;
  deciding = c.in_ok-active.ensures.deciding c.args.markings.now;
}

pub loop-i-preserved : goal.loop-i-preserved
loop-i-preserved c =
    let ms = c.args.markings.now in
    elim c.if-begins_text.branch [
      | then-begins_text+in_ok-begin w ↦ record {
        active = rw w.active-is (active_begun w.begin.new.self ms c.loop-i.i c.index-markings-i.result c.loop-i-test.true c.index-markings-i.is
            (sym c.begins_text.ensures ∙ w.if-begins_text.true)
            (w.in_ok-begin.ensures.active (length ms) (passes is_from_start (take c.loop-i.i ms)) (λ i. false) c.loop-i.invariant.active));
        noted = rw w.active-is (w.in_ok-begin.ensures.noted [] c.loop-i.invariant.noted);
        deciding = rw w.active-is (w.in_ok-begin.ensures.deciding c.loop-i.invariant.deciding);
      }
      | else-begins_text w ↦ record {
        active = rw w.active-is (active_not_begun c.loop-i.active ms c.loop-i.i c.index-markings-i.result c.loop-i-test.true c.index-markings-i.is
            (sym c.begins_text.ensures ∙ w.if-begins_text.false) c.loop-i.invariant.active);
        noted = rw w.active-is c.loop-i.invariant.noted;
        deciding = rw w.active-is c.loop-i.invariant.deciding;
      }
    ]
