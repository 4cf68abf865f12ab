use Rattle.std.proofs.Common.{◌++◌, ◌∷◌, [], length, sym, ap, ◌∙◌}
use Rattle.op_list.proofs.FirstRecord.{begins_one}
use Rattle.run_list.specs.Told.{with_token}
use Rattle.run_list.proofs.run_list.RunList.begin_record.Goals as goal

pub returns-clause-ok : goal.returns-clause-ok
returns-clause-ok c = λ op is.
    let n = length c.args.bytes.now in
    let same = begins_one c.args.bytes.now op c.in_ok-op.op n n is c.in_ok-op.ensures in
    c.in_ok-begin.ensures.ok ∙ ap (λ o. c.args.self.now ++ with_token o c.in_ok-op.op.token ∷ []) c.bare_of.ensures
    ∙ ap (λ o. c.args.self.now ++ o ∷ []) (sym same)
