use Rattle.std.proofs.Common.{◌∙◌}
use Rattle.std.proofs.lemmas.Result.{IfOk-weaker}
use Rattle.span_flatten.proofs.SpanLemmas.{spans_by_place}
use Rattle.span_flatten.proofs.flatten.spans_slow.Goals as goal

pub returns : goal.returns
returns c =
    IfOk-weaker c.spans_of.result _ _ (λ found is_it. λ ops doc holds marks.
    is_it ∙ (c.in_ok-runs.ensures ops doc holds marks ∙ spans_by_place ops doc c.deref.result.now
    (c.deref.ensures.value ∙ (c.in_ok-cells.ensures ∙ holds.content)))) c.spans_of.ensures
