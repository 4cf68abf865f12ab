use Rattle.std.proofs.Common.{codes, decimal}
use Rattle.session_lines.proofs.PutLemmas.{◌>>◌, stops, then_after_number, then_after_part}
use Rattle.session_lines.proofs.documents.put_document.Goals as goal

pub returns-in_err-put_part : goal.returns-in_err-put_part
returns-in_err-put_part c = stops c.from_residual.ensures.0 c.in_err-put_part.ensures

pub returns-in_err-put_numbered : goal.returns-in_err-put_numbered
returns-in_err-put_numbered c = stops c.from_residual-in_err-put_numbered.ensures.0 (c.in_ok-put_part.ensures >> c.in_err-put_numbered.ensures)

pub returns-in_err-put_writers : goal.returns-in_err-put_writers
returns-in_err-put_writers c =
    stops c.from_residual-in_err-put_writers.ensures.0
    (c.in_ok-put_part.ensures >> c.in_ok-put_numbered.ensures >> c.in_err-put_writers.ensures)

pub returns : goal.returns
returns c =
    rw (← c.counts.view_is, ← c.deref.ensures.value)
    (then_after_part (codes "{\"chars\":") (decimal c.counts.inside.chars) (codes ",\"doc\":") (decimal c.counts.inside.doc) c.in_ok-put_part.ensures
    (then_after_number (codes ",\"ops\":") (decimal c.counts.inside.ops) (codes ",\"writers\":[") c.in_ok-put_numbered.ensures (c.in_ok-put_writers.ensures >> c.put.ensures)))
