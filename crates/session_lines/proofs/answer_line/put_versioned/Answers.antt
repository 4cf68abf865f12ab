use Rattle.std.proofs.Common.{codes, decimal}
use Rattle.session_lines.proofs.PutLemmas.{◌>>◌, stops, then_after_number}
use Rattle.session_lines.proofs.answer_line.put_versioned.Goals as goal

pub returns-in_err-put_numbered : goal.returns-in_err-put_numbered
returns-in_err-put_numbered c = stops c.from_residual.ensures.0 c.in_err-put_numbered.ensures

pub returns-in_err-put_versions : goal.returns-in_err-put_versions
returns-in_err-put_versions c = stops c.from_residual-in_err-put_versions.ensures.0 (c.in_ok-put_numbered.ensures >> c.in_err-put_versions.ensures)

pub returns : goal.returns
returns c = rw (← c.as_slice.ensures) (then_after_number (codes "{\"ok\":true,\"rev\":") (decimal c.args.rev) (codes ",\"versions\":[") c.in_ok-put_numbered.ensures (c.in_ok-put_versions.ensures >> c.put.ensures))
