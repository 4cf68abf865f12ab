use Rattle.std.proofs.Common.{◌++◌, false, arith}
use Rattle.session_lines.specs.Saying.{said_anchor}
use Rattle.session_lines.specs.Words.{comma_after, said_list}
use Rattle.session_lines.proofs.PutLemmas.{◌>>◌, stops}
use Rattle.session_lines.proofs.SaidLemmas.{said_more, said_end}
use Rattle.session_lines.proofs.places.put_anchors.Goals as goal

pub loop-place-preserved : goal.loop-place-preserved
loop-place-preserved c =
    let (done, so_far, rest) = c.loop-place.invariant in (
      done ++ (comma_after c.loop-place.later ++ said_anchor c.place-item.result),
      rw (← c.comma.ensures) (so_far >> c.in_ok-put.ensures >> c.in_ok-put_anchor.ensures),
      said_more said_anchor done c.args.places.now c.loop-place.place-index c.loop-place.later c.place-item.result
          (said_list said_anchor false c.args.places.now) (omega arith) c.place-item.is rest,
    )

pub returns-in_err-put : goal.returns-in_err-put
returns-in_err-put c =
    let (done, so_far, rest) = c.loop-place.invariant in
    stops c.from_residual.ensures.0 (so_far >> c.in_err-put.ensures)

pub returns-in_err-put_anchor : goal.returns-in_err-put_anchor
returns-in_err-put_anchor c =
    let (done, so_far, rest) = c.loop-place.invariant in
    stops c.from_residual-in_err-put_anchor.ensures.0
    (so_far >> c.in_ok-put.ensures >> c.in_err-put_anchor.ensures)

pub returns : goal.returns
returns c =
    let (done, so_far, rest) = c.loop-place.invariant in
    let all = said_end said_anchor done c.args.places.now c.loop-place.place-index c.loop-place.later (said_list said_anchor false c.args.places.now) (omega arith) rest in
    rw all (so_far >> c.put-2.ensures)
