use Rattle.std.proofs.Common.{codes, decimal}
use Rattle.session_lines.proofs.PutLemmas.{◌>>◌, stops, then_after_part}
use Rattle.session_lines.proofs.peers.put_peer.Goals as goal

pub returns-in_err-put_part : goal.returns-in_err-put_part
returns-in_err-put_part c = stops c.from_residual.ensures.0 c.in_err-put_part.ensures

pub returns-in_err-put : goal.returns-in_err-put
returns-in_err-put c = stops c.from_residual-in_err-put.ensures.0 (c.in_ok-put_part.ensures >> c.in_err-put.ensures)

pub returns-in_err-put_replica : goal.returns-in_err-put_replica
returns-in_err-put_replica c =
    stops c.from_residual-in_err-put_replica.ensures.0
    (c.in_ok-put_part.ensures >> c.in_ok-put.ensures >> c.in_err-put_replica.ensures)

pub returns : goal.returns
returns c = then_after_part (codes "{\"has\":") (decimal c.args.peer.now.has) (codes ",\"lacks\":") (decimal c.args.peer.now.lacks) c.in_ok-put_part.ensures (c.in_ok-put.ensures >> c.in_ok-put_replica.ensures >> c.put-2.ensures)
