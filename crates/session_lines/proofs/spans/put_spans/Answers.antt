use Rattle.std.proofs.Common.{◌++◌, false, arith}
use Rattle.session_lines.specs.Saying.{said_span}
use Rattle.session_lines.specs.Words.{comma_after, said_list}
use Rattle.session_lines.proofs.PutLemmas.{◌>>◌, stops}
use Rattle.session_lines.proofs.SaidLemmas.{said_more, said_end}
use Rattle.session_lines.proofs.spans.put_spans.Goals as goal

pub loop-span-preserved : goal.loop-span-preserved
loop-span-preserved c =
    let (done, so_far, rest) = c.loop-span.invariant in (
      done ++ (comma_after c.loop-span.later ++ said_span c.span-item.result),
      rw (← c.comma.ensures) (so_far >> c.in_ok-put.ensures >> c.in_ok-put_span.ensures),
      said_more said_span done c.args.spans.now c.loop-span.span-index c.loop-span.later c.span-item.result
          (said_list said_span false c.args.spans.now) (omega arith) c.span-item.is rest,
    )

pub returns-in_err-put : goal.returns-in_err-put
returns-in_err-put c =
    let (done, so_far, rest) = c.loop-span.invariant in
    stops c.from_residual.ensures.0 (so_far >> c.in_err-put.ensures)

pub returns-in_err-put_span : goal.returns-in_err-put_span
returns-in_err-put_span c =
    let (done, so_far, rest) = c.loop-span.invariant in
    stops c.from_residual-in_err-put_span.ensures.0
    (so_far >> c.in_ok-put.ensures >> c.in_err-put_span.ensures)

pub returns : goal.returns
returns c =
    let (done, so_far, rest) = c.loop-span.invariant in
    let all = said_end said_span done c.args.spans.now c.loop-span.span-index c.loop-span.later (said_list said_span false c.args.spans.now) (omega arith) rest in
    rw all (so_far >> c.put-2.ensures)
