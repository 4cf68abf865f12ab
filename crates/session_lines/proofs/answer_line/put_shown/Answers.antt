use Rattle.std.proofs.Common.{codes, decimal}
use Rattle.session_lines.proofs.PutLemmas.{◌>>◌, stops, then_after_number}
use Rattle.session_lines.proofs.answer_line.put_shown.Goals as goal

pub returns-in_err-put_numbered : goal.returns-in_err-put_numbered
returns-in_err-put_numbered c = stops c.from_residual.ensures.0 c.in_err-put_numbered.ensures

pub returns-in_err-put_characters : goal.returns-in_err-put_characters
returns-in_err-put_characters c =
    stops c.from_residual-in_err-put_characters.ensures.0
    (c.in_ok-put_numbered.ensures >> c.in_err-put_characters.ensures)

pub returns : goal.returns
returns c = rw (← c.as_slice.ensures) (then_after_number (codes "{\"ok\":true,\"rev\":") (decimal c.args.rev) (codes ",\"text\":") c.in_ok-put_numbered.ensures (c.in_ok-put_characters.ensures >> c.put.ensures))
