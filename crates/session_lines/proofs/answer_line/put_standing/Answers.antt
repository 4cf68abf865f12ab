use Rattle.session_lines.proofs.PutLemmas.{◌>>◌, stops}
use Rattle.session_lines.proofs.answer_line.put_standing.Goals as goal

pub returns-in_err-put : goal.returns-in_err-put
returns-in_err-put c = stops c.from_residual.ensures.0 c.in_err-put.ensures

pub returns-in_err-put_places : goal.returns-in_err-put_places
returns-in_err-put_places c = stops c.from_residual-in_err-put_places.ensures.0 (c.in_ok-put.ensures >> c.in_err-put_places.ensures)

pub returns : goal.returns
returns c = rw (← c.as_slice.ensures) (c.in_ok-put.ensures >> c.in_ok-put_places.ensures >> c.put_numbered.ensures)
