use Rattle.std.proofs.Common.{sym, ◌∙◌, ap}
use Rattle.std.proofs.lemmas.Result.{on_ok_weaker}
use Rattle.model_laws.specs.Since.{with_last}
use Rattle.span_flatten.specs.Telling.{brought}
use Rattle.span_flatten.proofs.TellingLemmas.{behind}
use Rattle.span_flatten.proofs.telling.put.Goals as goal

pub returns-in-Some : goal.returns-in-Some
returns-in-Some c =
    on_ok_weaker c.put_behind.result (λ is. is ∙ behind c.pop.new.self.items c.in-Some.last (brought c.args.value c.args.marks.now)
    ∙ ap (λ ss. with_last ss (brought c.args.value c.args.marks.now)) (sym c.in-Some.ensures.items)) c.put_behind.ensures
