use Rattle.std.proofs.Common.{ap, sym, ◌∙◌}
use Rattle.std.proofs.lemmas.Result.{on_ok_weaker}
use Rattle.span_flatten.specs.Telling.{keeping}
use Rattle.span_flatten.proofs.QuietLemmas.{keeping_some}
use Rattle.span_flatten.proofs.telling.keep_all.Goals as goal

pub returns-then-count-eq0 : goal.returns-then-count-eq0
returns-then-count-eq0 c = ap (keeping c.args.steps.now.items) (sym c.if-count-eq0.true)

pub returns : goal.returns
returns c = on_ok_weaker c.keep.result (λ is. is ∙ keeping_some c.args.steps.now.items c.args.count c.if-count-eq0.false) c.keep.ensures
