use Rattle.session_lines.proofs.PutLemmas.{◌>>◌, stops}
use Rattle.session_lines.proofs.changes.put_mark.Goals as goal

pub returns-in_err-put : goal.returns-in_err-put
returns-in_err-put c = stops c.from_residual.ensures.0 c.in_err-put.ensures

pub returns-in_err-put_marks_now : goal.returns-in_err-put_marks_now
returns-in_err-put_marks_now c = stops c.from_residual-in_err-put_marks_now.ensures.0 (c.in_ok-put.ensures >> c.in_err-put_marks_now.ensures)

pub returns : goal.returns
returns c = c.in_ok-put.ensures >> c.in_ok-put_marks_now.ensures >> c.put_count.ensures
