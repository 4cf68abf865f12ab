use Rattle.session_lines.proofs.PutLemmas.{◌>>◌, stops}
use Rattle.session_lines.proofs.places.put_anchor.Goals as goal

pub returns-in_err-put : goal.returns-in_err-put
returns-in_err-put c = stops c.from_residual.ensures.0 c.in_err-put.ensures

pub returns-in_err-put_lasting : goal.returns-in_err-put_lasting
returns-in_err-put_lasting c = stops c.from_residual-in_err-put_lasting.ensures.0 (c.in_ok-put.ensures >> c.in_err-put_lasting.ensures)

pub returns : goal.returns
returns c = c.in_ok-put.ensures >> c.in_ok-put_lasting.ensures >> c.put-2.ensures
