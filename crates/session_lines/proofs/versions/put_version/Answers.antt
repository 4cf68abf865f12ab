use Rattle.std.proofs.Common.{codes, decimal}
use Rattle.session_lines.proofs.PutLemmas.{◌>>◌, stops, then_after_number}
use Rattle.session_lines.proofs.versions.put_version.Goals as goal

pub returns-in_err-put_numbered : goal.returns-in_err-put_numbered
returns-in_err-put_numbered c = stops c.from_residual.ensures.0 c.in_err-put_numbered.ensures

pub returns-in_err-put_replica : goal.returns-in_err-put_replica
returns-in_err-put_replica c =
    stops c.from_residual-in_err-put_replica.ensures.0
    (c.in_ok-put_numbered.ensures >> c.in_err-put_replica.ensures)

pub returns : goal.returns
returns c = then_after_number (codes "{\"ops\":") (decimal c.args.version.now.ops) (codes ",\"replica\":") c.in_ok-put_numbered.ensures (c.in_ok-put_replica.ensures >> c.put_numbered-2.ensures)
