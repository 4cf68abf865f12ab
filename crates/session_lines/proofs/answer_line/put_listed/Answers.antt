use Rattle.std.proofs.Common.{codes, decimal}
use Rattle.session_lines.proofs.PutLemmas.{◌>>◌, stops, then_after_number}
use Rattle.session_lines.proofs.answer_line.put_listed.Goals as goal

pub returns-in_err-put_numbered : goal.returns-in_err-put_numbered
returns-in_err-put_numbered c = stops c.from_residual.ensures.0 c.in_err-put_numbered.ensures

pub returns-in_err-put_spans : goal.returns-in_err-put_spans
returns-in_err-put_spans c = stops c.from_residual-in_err-put_spans.ensures.0 (c.in_ok-put_numbered.ensures >> c.in_err-put_spans.ensures)

pub returns : goal.returns
returns c = rw (← c.as_slice.ensures) (then_after_number (codes "{\"ok\":true,\"rev\":") (decimal c.args.rev) (codes ",\"spans\":[") c.in_ok-put_numbered.ensures (c.in_ok-put_spans.ensures >> c.put.ensures))
