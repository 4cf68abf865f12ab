use Rattle.std.proofs.Common.{length, get_or, true, false, ap, ◌∙◌}
use Rattle.std.proofs.lemmas.List.{length-set}
use Rattle.std.proofs.lemmas.Result.{on_ok_weaker}
use Rattle.span_flatten.specs.Sweeping.{flagged, kept}
use Rattle.span_flatten.proofs.ActiveLemmas.{end_more}
use Rattle.span_flatten.proofs.KeptLemmas.{flag_put, flagged_without, up_flagged}
use Rattle.span_flatten.proofs.active.Active.end.Goals as goal

pub returns-clause-active : goal.returns-clause-active
returns-clause-active c =
    on_ok_weaker c.end.result (λ put. λ n begun ended are.
    end_more c.args.self.now _ n c.args.i begun ended (ap length c.put_flag-2.ensures ∙ length-set c.args.self.now.ended.items c.args.i true)
    (ap length c.put_flag.ensures ∙ length-set c.args.self.now.in_force.items c.args.i false)
    (λ j within. ap (λ flags. get_or flags j true) c.put_flag-2.ensures ∙ flag_put c.args.self.now.ended.items c.args.i j within)
    (ap flagged c.put_flag.ensures ∙ flagged_without c.args.self.now.in_force.items c.args.i) are) c.end.ensures.decides

pub returns-clause-deciding : goal.returns-clause-deciding
returns-clause-deciding c =
    let less = ap flagged c.put_flag.ensures ∙ flagged_without c.args.self.now.in_force.items c.args.i in
    on_ok_weaker c.end.result (λ put. λ decides.
    rw less (put (kept c.args.self.now) (up_flagged c.args.self.now.in_force.items) decides)) c.end.ensures.decides
