use Rattle.session_lines.proofs.PutLemmas.{◌>>◌, stops}
use Rattle.session_lines.proofs.changes.put_put.Goals as goal

pub returns-in_err-put_attributes : goal.returns-in_err-put_attributes
returns-in_err-put_attributes c = stops c.from_residual.ensures.0 c.in_err-put_attributes.ensures

pub returns : goal.returns
returns c = rw (← c.as_slice.ensures) (c.in_ok-put_attributes.ensures >> c.put_text.ensures)
