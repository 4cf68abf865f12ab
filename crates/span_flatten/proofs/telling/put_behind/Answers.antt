use Rattle.std.proofs.Common.{[], ◌∷◌, ◌++◌, sym, ◌∙◌, ap}
use Rattle.op_model.specs.declared.change_step.ChangeStep.TheVariants.{Put}
use Rattle.model_laws.specs.Since.{with_last}
use Rattle.span_flatten.specs.Telling.{brought}
use Rattle.span_flatten.proofs.TellingLemmas.{put_one}
use Rattle.span_flatten.proofs.telling.put_behind.Goals as goal

pub returns-then-are_same : goal.returns-then-are_same
returns-then-are_same c =
    c.in_ok-push-in-Put.ensures.items
    ∙ ap (λ s. c.args.steps.now.items ++ Put s ∷ []) c.in_ok-with_character-in-Put.ensures
    ∙ ap (λ ss. c.args.steps.now.items ++ ss) (put_one c.in-Put.span c.args.value c.args.marks.now (sym c.if-are_same.ensures))
    ∙ ap (λ l. c.args.steps.now.items ++ with_last (l ∷ []) (brought c.args.value c.args.marks.now)) (sym c.in-Put.is)
