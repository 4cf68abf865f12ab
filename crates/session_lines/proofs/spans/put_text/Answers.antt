use Rattle.session_lines.proofs.PutLemmas.{◌>>◌, stops}
use Rattle.session_lines.proofs.spans.put_text.Goals as goal

pub returns-in_err-put : goal.returns-in_err-put
returns-in_err-put c = stops c.from_residual.ensures.0 c.in_err-put.ensures

pub returns-in_err-put_characters : goal.returns-in_err-put_characters
returns-in_err-put_characters c = stops c.from_residual-in_err-put_characters.ensures.0 (c.in_ok-put.ensures >> c.in_err-put_characters.ensures)

pub returns : goal.returns
returns c = c.in_ok-put.ensures >> c.in_ok-put_characters.ensures >> c.put-2.ensures
