use Rattle.std.proofs.Common.{sym, ◌∙◌, ap}
use Rattle.std.proofs.lemmas.Result.{on_ok_weaker}
use Rattle.model_laws.specs.Since.{with_last}
use Rattle.op_model.specs.declared.change_step.ChangeStep.TheVariants.{Keep}
use Rattle.span_flatten.proofs.TellingLemmas.{behind}
use Rattle.span_flatten.proofs.telling.keep.Goals as goal

pub returns-in-Some : goal.returns-in-Some
returns-in-Some c =
    on_ok_weaker c.keep_behind.result (λ is. is ∙ behind c.pop.new.self.items c.in-Some.last (Keep c.args.count)
    ∙ ap (λ ss. with_last ss (Keep c.args.count)) (sym c.in-Some.ensures.items)) c.keep_behind.ensures
