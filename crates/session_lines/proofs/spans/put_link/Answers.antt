use Rattle.session_lines.proofs.PutLemmas.{◌>>◌, stops}
use Rattle.session_lines.proofs.spans.put_link.Goals as goal

pub returns-in_err-put-in-Some : goal.returns-in_err-put-in-Some
returns-in_err-put-in-Some c = stops c.from_residual.ensures.0 c.in_err-put-in-Some.ensures

pub returns-in_err-put_quoted-in-Some : goal.returns-in_err-put_quoted-in-Some
returns-in_err-put_quoted-in-Some c =
    stops c.from_residual-in_err-put_quoted-in-Some.ensures.0 (c.in_ok-put-in-Some.ensures >> c.in_err-put_quoted-in-Some.ensures)
