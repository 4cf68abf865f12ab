use Rattle.session_lines.proofs.PutLemmas.{◌>>◌, stops}
use Rattle.session_lines.proofs.answer_line.put_named.Goals as goal

pub returns-in_err-put : goal.returns-in_err-put
returns-in_err-put c = stops c.from_residual.ensures.0 c.in_err-put.ensures

pub returns-in_err-put_anchors : goal.returns-in_err-put_anchors
returns-in_err-put_anchors c = stops c.from_residual-in_err-put_anchors.ensures.0 (c.in_ok-put.ensures >> c.in_err-put_anchors.ensures)

pub returns : goal.returns
returns c = rw (← c.as_slice.ensures) (c.in_ok-put.ensures >> c.in_ok-put_anchors.ensures >> c.put_numbered.ensures)
