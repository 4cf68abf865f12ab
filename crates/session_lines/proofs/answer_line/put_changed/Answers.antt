use Rattle.session_lines.proofs.PutLemmas.{◌>>◌, stops}
use Rattle.session_lines.proofs.answer_line.put_changed.Goals as goal

pub returns-in_err-put : goal.returns-in_err-put
returns-in_err-put c = stops c.from_residual.ensures.0 c.in_err-put.ensures

pub returns-in_err-put_changes : goal.returns-in_err-put_changes
returns-in_err-put_changes c = stops c.from_residual-in_err-put_changes.ensures.0 (c.in_ok-put.ensures >> c.in_err-put_changes.ensures)

pub returns : goal.returns
returns c = rw (← c.as_slice.ensures) (c.in_ok-put.ensures >> c.in_ok-put_changes.ensures >> c.put_numbered.ensures)
