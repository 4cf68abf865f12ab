use Rattle.std.proofs.Common.{[], ◌∷◌, ◌++◌, sym, ◌∙◌, ap}
use Rattle.op_model.specs.declared.change_step.ChangeStep.TheVariants.{Mark}
use Rattle.model_laws.specs.Since.{with_last}
use Rattle.span_flatten.proofs.TellingLemmas.{mark_one}
use Rattle.span_flatten.proofs.telling.mark_behind.Goals as goal

pub returns-then-are_same : goal.returns-then-are_same
returns-then-are_same c =
    c.in_ok-push-in-Mark.ensures.items
    ∙ ap (λ ss. c.args.steps.now.items ++ ss) (mark_one c.in-Mark.count c.in_ok-one_more-in-Mark.field-0 c.in-Mark.held c.args.marks.now
    c.in_ok-one_more-in-Mark.ensures (sym c.if-are_same.ensures))
    ∙ ap (λ l. c.args.steps.now.items ++ with_last (l ∷ []) (Mark 1 c.args.marks.now)) (sym c.in-Mark.is)
