use Rattle.session_lines.proofs.PutLemmas.{◌>>◌, stops}
use Rattle.session_lines.proofs.QuotedLemmas.{in_quotes}
use Rattle.session_lines.proofs.quoted.put_quoted_bytes.Goals as goal

pub returns-in_err-put : goal.returns-in_err-put
returns-in_err-put c = stops c.from_residual.ensures.0 c.in_err-put.ensures

pub returns-in_err-put_inside : goal.returns-in_err-put_inside
returns-in_err-put_inside c = stops c.from_residual-in_err-put_inside.ensures.0 (c.in_ok-put.ensures >> c.in_err-put_inside.ensures)

pub returns : goal.returns
returns c = rw (in_quotes c.args.bytes.now) (c.in_ok-put.ensures >> c.in_ok-put_inside.ensures >> c.put-2.ensures)
