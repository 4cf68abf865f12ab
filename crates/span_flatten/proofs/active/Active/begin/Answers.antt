use Rattle.std.proofs.Common.{length, true, ap, sym, refl, ◌∙◌}
use Rattle.std.proofs.lemmas.List.{length-set}
use Rattle.std.proofs.lemmas.Result.{on_ok_weaker}
use Rattle.span_flatten.specs.Sweeping.{flagged, kept}
use Rattle.span_flatten.proofs.ActiveLemmas.{begin_more, begin_none}
use Rattle.span_flatten.proofs.KeptLemmas.{flagged_with, may_begin, may_not_begin, up_flagged}
use Rattle.span_flatten.proofs.active.Active.begin.Goals as goal

pub returns-then-not-may_begin-clause-active : goal.returns-then-not-may_begin-clause-active
returns-then-not-may_begin-clause-active c = λ n begun ended are.
    begin_none c.args.self.now n c.args.i begun ended
    (may_not_begin c.args.self.now n c.args.i begun ended (sym c.may_begin.ensures ∙ c.if-not-may_begin.true) are) are

pub returns-clause-active : goal.returns-clause-active
returns-clause-active c =
    let may = may_begin c.args.self.now c.args.i (sym c.may_begin.ensures ∙ c.if-not-may_begin.false) in
    on_ok_weaker c.begin.result (λ put. λ n begun ended are.
    begin_more c.args.self.now _ n c.args.i begun ended may.1 refl
    (ap length c.put_flag.ensures ∙ length-set c.args.self.now.in_force.items c.args.i true)
    (ap flagged c.put_flag.ensures ∙ flagged_with c.args.self.now.in_force.items c.args.i may.0) are) c.begin.ensures.decides

pub returns-clause-deciding : goal.returns-clause-deciding
returns-clause-deciding c =
    let may = may_begin c.args.self.now c.args.i (sym c.may_begin.ensures ∙ c.if-not-may_begin.false) in
    let more = ap flagged c.put_flag.ensures ∙ flagged_with c.args.self.now.in_force.items c.args.i may.0 in
    on_ok_weaker c.begin.result (λ put. λ decides.
    rw more (put (kept c.args.self.now) (up_flagged c.args.self.now.in_force.items) decides)) c.begin.ensures.decides
