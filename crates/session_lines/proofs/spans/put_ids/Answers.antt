use Rattle.std.proofs.Common.{◌++◌, false, arith}
use Rattle.session_lines.specs.Saying.{said_id}
use Rattle.session_lines.specs.Words.{comma_after, said_list}
use Rattle.session_lines.proofs.PutLemmas.{◌>>◌, stops}
use Rattle.session_lines.proofs.SaidLemmas.{said_more, said_end}
use Rattle.session_lines.proofs.spans.put_ids.Goals as goal

pub loop-id-preserved : goal.loop-id-preserved
loop-id-preserved c =
    let (done, so_far, rest) = c.loop-id.invariant in (
      done ++ (comma_after c.loop-id.later ++ said_id c.id-item.result),
      rw (← c.comma.ensures) (so_far >> c.in_ok-put.ensures >> c.in_ok-put_id.ensures),
      said_more said_id done c.args.ids.now c.loop-id.id-index c.loop-id.later c.id-item.result
          (said_list said_id false c.args.ids.now) (omega arith) c.id-item.is rest,
    )

pub returns-in_err-put : goal.returns-in_err-put
returns-in_err-put c =
    let (done, so_far, rest) = c.loop-id.invariant in
    stops c.from_residual.ensures.0 (so_far >> c.in_err-put.ensures)

pub returns-in_err-put_id : goal.returns-in_err-put_id
returns-in_err-put_id c =
    let (done, so_far, rest) = c.loop-id.invariant in
    stops c.from_residual-in_err-put_id.ensures.0
    (so_far >> c.in_ok-put.ensures >> c.in_err-put_id.ensures)

pub returns : goal.returns
returns c =
    let (done, so_far, rest) = c.loop-id.invariant in
    let all = said_end said_id done c.args.ids.now c.loop-id.id-index c.loop-id.later (said_list said_id false c.args.ids.now) (omega arith) rest in
    rw all (so_far >> c.put-2.ensures)
