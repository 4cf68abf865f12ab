use Rattle.std.proofs.Common.{Some, ap, sym, ◌∙◌}
use Rattle.std.proofs.lemmas.Option.{slice_get-get_or}
use Rattle.op_model.specs.declared.mark.MarkKey.TheVariants as key
use Rattle.model_laws.proofs.Up.{has}
use Rattle.span_flatten.specs.Picking.{is_of_key}
use Rattle.span_flatten.proofs.DecidingLemmas.{discussed_without, none_about}
use Rattle.span_flatten.proofs.discussed.Discussed.end.Goals as goal

pub returns-in_ok-settle-clause-discussed : goal.returns-in_ok-settle-clause-discussed
returns-in_ok-settle-clause-discussed c = λ set up about was.
    let found = c.in-Some.ensures.lookup in
    let there = slice_get-get_or c.args.markings.now c.args.i c.in-Some.marking.now found.3.0 ∙ ap Some (sym found.1) in
    discussed_without c.args.self.now _ c.args.markings.now set c.in-Some.marking.now c.args.i c.args.id c.of.result c.stands-stands.result up there
    (ap (λ o. is_of_key o (key.Comment c.args.id)) (sym there) ∙ about) c.of.ensures.id c.of.ensures.before c.remove.ensures c.stands-stands.ensures
    c.in_ok-settle.ensures.standing was

pub returns-in_default-clause-discussed : goal.returns-in_default-clause-discussed
returns-in_default-clause-discussed c = λ set up about was. absurd (none_about c.args.markings.now c.args.i c.args.id c.in_default.ensures.lookup.3 about)

pub returns-in_ok-settle-clause-noted : goal.returns-in_ok-settle-clause-noted
returns-in_ok-settle-clause-noted c = λ ids noted. record { up = noted.up; noted = c.in_ok-settle.ensures.noted (λ id. has id ids) noted.noted }
