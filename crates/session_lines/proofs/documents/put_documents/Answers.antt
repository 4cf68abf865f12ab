use Rattle.std.proofs.Common.{◌++◌, false, arith}
use Rattle.session_lines.specs.Counting.{said_document}
use Rattle.session_lines.specs.Words.{comma_after, said_list}
use Rattle.session_lines.proofs.PutLemmas.{◌>>◌, stops}
use Rattle.session_lines.proofs.SaidLemmas.{said_more, said_end}
use Rattle.session_lines.proofs.documents.put_documents.Goals as goal

pub loop-counts-preserved : goal.loop-counts-preserved
loop-counts-preserved c =
    let (done, so_far, rest) = c.loop-counts.invariant in (
      done ++ (comma_after c.loop-counts.later ++ said_document c.counts-item.result),
      rw (← c.comma.ensures) (so_far >> c.in_ok-put.ensures >> c.in_ok-put_document.ensures),
      said_more said_document done c.args.documents.now c.loop-counts.counts-index c.loop-counts.later c.counts-item.result
          (said_list said_document false c.args.documents.now) (omega arith) c.counts-item.is rest,
    )

pub returns-in_err-put : goal.returns-in_err-put
returns-in_err-put c =
    let (done, so_far, rest) = c.loop-counts.invariant in
    stops c.from_residual.ensures.0 (so_far >> c.in_err-put.ensures)

pub returns-in_err-put_document : goal.returns-in_err-put_document
returns-in_err-put_document c =
    let (done, so_far, rest) = c.loop-counts.invariant in
    stops c.from_residual-in_err-put_document.ensures.0
    (so_far >> c.in_ok-put.ensures >> c.in_err-put_document.ensures)

pub returns : goal.returns
returns c =
    let (done, so_far, rest) = c.loop-counts.invariant in
    let all = said_end said_document done c.args.documents.now c.loop-counts.counts-index c.loop-counts.later (said_list said_document false c.args.documents.now) (omega arith) rest in
    rw all (so_far >> c.put-2.ensures)
