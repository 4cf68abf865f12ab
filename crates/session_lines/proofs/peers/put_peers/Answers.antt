use Rattle.std.proofs.Common.{◌++◌, false, arith}
use Rattle.session_lines.specs.Saying.{said_peer}
use Rattle.session_lines.specs.Words.{comma_after, said_list}
use Rattle.session_lines.proofs.PutLemmas.{◌>>◌, stops}
use Rattle.session_lines.proofs.SaidLemmas.{said_more, said_end}
use Rattle.session_lines.proofs.peers.put_peers.Goals as goal

pub loop-peer-preserved : goal.loop-peer-preserved
loop-peer-preserved c =
    let (done, so_far, rest) = c.loop-peer.invariant in (
      done ++ (comma_after c.loop-peer.later ++ said_peer c.peer-item.result),
      rw (← c.comma.ensures) (so_far >> c.in_ok-put.ensures >> c.in_ok-put_peer.ensures),
      said_more said_peer done c.args.peers.now c.loop-peer.peer-index c.loop-peer.later c.peer-item.result
          (said_list said_peer false c.args.peers.now) (omega arith) c.peer-item.is rest,
    )

pub returns-in_err-put : goal.returns-in_err-put
returns-in_err-put c =
    let (done, so_far, rest) = c.loop-peer.invariant in
    stops c.from_residual.ensures.0 (so_far >> c.in_err-put.ensures)

pub returns-in_err-put_peer : goal.returns-in_err-put_peer
returns-in_err-put_peer c =
    let (done, so_far, rest) = c.loop-peer.invariant in
    stops c.from_residual-in_err-put_peer.ensures.0
    (so_far >> c.in_ok-put.ensures >> c.in_err-put_peer.ensures)

pub returns : goal.returns
returns c =
    let (done, so_far, rest) = c.loop-peer.invariant in
    let all = said_end said_peer done c.args.peers.now c.loop-peer.peer-index c.loop-peer.later (said_list said_peer false c.args.peers.now) (omega arith) rest in
    rw all (so_far >> c.put-2.ensures)
