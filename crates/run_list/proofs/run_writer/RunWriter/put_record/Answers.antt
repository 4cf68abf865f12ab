use Rattle.std.proofs.Common.{◌++◌, ◌∷◌, [], length, sym, ap, ◌∙◌}
use Rattle.op_list.proofs.FirstRecord.{begins_one}
use Rattle.run_list.proofs.run_writer.RunWriter.put_record.Goals as goal

pub returns-in_ok-put-clause-ok : goal.returns-in_ok-put-clause-ok
returns-in_ok-put-clause-ok c = λ op is.
    let n = length c.args.bytes.now in
    let same = begins_one c.args.bytes.now op c.in_ok-op.op n n is c.in_ok-op.ensures in
    c.in_ok-put.ensures.ok ∙ ap (λ o. c.args.self.now ++ o ∷ []) (sym same)
