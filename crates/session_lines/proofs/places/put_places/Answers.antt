use Rattle.std.proofs.Common.{◌++◌, false, arith, get_or, None}
use Rattle.session_lines.specs.Saying.{said_place}
use Rattle.session_lines.specs.Words.{comma_after, said_list}
use Rattle.session_lines.proofs.PutLemmas.{◌>>◌, stops}
use Rattle.session_lines.proofs.SaidLemmas.{said_more, said_end, same_at}
use Rattle.session_lines.proofs.places.put_places.Goals as goal

pub loop-place-preserved : goal.loop-place-preserved
loop-place-preserved c =
    let (done, so_far, rest) = c.loop-place.invariant in
    let place = get_or c.args.places.now c.loop-place.place-index None in (
      done ++ (comma_after c.loop-place.later ++ said_place place),
      rw (← c.comma.ensures) (so_far >> c.in_ok-put.ensures >> c.in_ok-put_place.ensures),
      said_more said_place done c.args.places.now c.loop-place.place-index c.loop-place.later place
          (said_list said_place false c.args.places.now) (omega arith) (same_at c.args.places.now c.loop-place.place-index None place (omega arith)) rest,
    )

pub returns-in_err-put : goal.returns-in_err-put
returns-in_err-put c =
    let (done, so_far, rest) = c.loop-place.invariant in
    stops c.from_residual.ensures.0 (so_far >> c.in_err-put.ensures)

pub returns-in_err-put_place : goal.returns-in_err-put_place
returns-in_err-put_place c =
    let (done, so_far, rest) = c.loop-place.invariant in
    stops c.from_residual-in_err-put_place.ensures.0
    (so_far >> c.in_ok-put.ensures >> c.in_err-put_place.ensures)

pub returns : goal.returns
returns c =
    let (done, so_far, rest) = c.loop-place.invariant in
    let all = said_end said_place done c.args.places.now c.loop-place.place-index c.loop-place.later (said_list said_place false c.args.places.now) (omega arith) rest in
    rw all (so_far >> c.put-2.ensures)
