use Rattle.std.proofs.Common.{◌++◌, false, arith}
use Rattle.session_lines.specs.Words.{comma_after, said_list, said_replica}
use Rattle.session_lines.proofs.PutLemmas.{◌>>◌, stops}
use Rattle.session_lines.proofs.SaidLemmas.{said_more, said_end}
use Rattle.session_lines.proofs.documents.put_writers.Goals as goal

pub loop-writer-preserved : goal.loop-writer-preserved
loop-writer-preserved c =
    let (done, so_far, rest) = c.loop-writer.invariant in (
      done ++ (comma_after c.loop-writer.later ++ said_replica c.writer-item.result),
      rw (← c.comma.ensures) (so_far >> c.in_ok-put.ensures >> c.in_ok-put_replica.ensures),
      said_more said_replica done c.args.writers.now c.loop-writer.writer-index c.loop-writer.later c.writer-item.result
          (said_list said_replica false c.args.writers.now) (omega arith) c.writer-item.is rest,
    )

pub returns-in_err-put : goal.returns-in_err-put
returns-in_err-put c =
    let (done, so_far, rest) = c.loop-writer.invariant in
    stops c.from_residual.ensures.0 (so_far >> c.in_err-put.ensures)

pub returns-in_err-put_replica : goal.returns-in_err-put_replica
returns-in_err-put_replica c =
    let (done, so_far, rest) = c.loop-writer.invariant in
    stops c.from_residual-in_err-put_replica.ensures.0
    (so_far >> c.in_ok-put.ensures >> c.in_err-put_replica.ensures)

pub returns : goal.returns
returns c =
    let (done, so_far, rest) = c.loop-writer.invariant in
    let all = said_end said_replica done c.args.writers.now c.loop-writer.writer-index c.loop-writer.later (said_list said_replica false c.args.writers.now) (omega arith) rest in
    rw all (so_far >> c.put-2.ensures)
