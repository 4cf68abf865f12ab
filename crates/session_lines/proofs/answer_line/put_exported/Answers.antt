use Rattle.std.proofs.Common.{codes, decimal}
use Rattle.session_lines.proofs.PutLemmas.{◌>>◌, stops, then_after_number}
use Rattle.session_lines.proofs.answer_line.put_exported.Goals as goal

pub returns-in_err-put_numbered : goal.returns-in_err-put_numbered
returns-in_err-put_numbered c = stops c.from_residual.ensures.0 c.in_err-put_numbered.ensures

pub returns-in_err-put_quoted_bytes : goal.returns-in_err-put_quoted_bytes
returns-in_err-put_quoted_bytes c =
    stops c.from_residual-in_err-put_quoted_bytes.ensures.0
    (c.in_ok-put_numbered.ensures >> c.in_err-put_quoted_bytes.ensures)

pub returns : goal.returns
returns c = rw (← c.as_slice.ensures) (then_after_number (codes "{\"ok\":true,\"rev\":") (decimal c.args.rev) (codes ",\"text\":") c.in_ok-put_numbered.ensures (c.in_ok-put_quoted_bytes.ensures >> c.put.ensures))
