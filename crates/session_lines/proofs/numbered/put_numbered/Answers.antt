use Rattle.session_lines.proofs.PutLemmas.{◌>>◌, stops}
use Rattle.session_lines.proofs.numbered.put_numbered.Goals as goal

pub returns-in_err-put : goal.returns-in_err-put
returns-in_err-put c = stops c.from_residual.ensures.0 c.in_err-put.ensures

pub returns-in_err-put_number : goal.returns-in_err-put_number
returns-in_err-put_number c = stops c.from_residual-in_err-put_number.ensures.0 (c.in_ok-put.ensures >> c.in_err-put_number.ensures)

pub returns : goal.returns
returns c = c.in_ok-put.ensures >> c.in_ok-put_number.ensures >> c.put-2.ensures
