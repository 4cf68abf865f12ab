use Rattle.std.proofs.Common.{decimal}
use Rattle.session_lines.proofs.PutLemmas.{stops, then_after_number}
use Rattle.session_lines.proofs.numbered.put_part.Goals as goal

pub returns-in_err-put_numbered : goal.returns-in_err-put_numbered
returns-in_err-put_numbered c = stops c.from_residual.ensures.0 c.in_err-put_numbered.ensures

pub returns : goal.returns
returns c = then_after_number c.args.before.now (decimal c.args.number) c.args.between.now c.in_ok-put_numbered.ensures c.put_number.ensures
