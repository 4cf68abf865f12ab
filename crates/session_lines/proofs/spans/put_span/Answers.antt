use Rattle.session_lines.proofs.PutLemmas.{◌>>◌, stops}
use Rattle.session_lines.proofs.spans.put_span.Goals as goal

pub returns-in_err-put : goal.returns-in_err-put
returns-in_err-put c = stops c.from_residual.ensures.0 c.in_err-put.ensures

pub returns-in_err-put_marks : goal.returns-in_err-put_marks
returns-in_err-put_marks c = stops c.from_residual-in_err-put_marks.ensures.0 (c.in_ok-put.ensures >> c.in_err-put_marks.ensures)

pub returns : goal.returns
returns c = rw (← c.as_slice.ensures) (c.in_ok-put.ensures >> c.in_ok-put_marks.ensures >> c.put_text.ensures)
