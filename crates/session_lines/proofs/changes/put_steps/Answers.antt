use Rattle.std.proofs.Common.{◌++◌, false, arith}
use Rattle.session_lines.specs.Saying.{said_step}
use Rattle.session_lines.specs.Words.{comma_after, said_list}
use Rattle.session_lines.proofs.PutLemmas.{◌>>◌, stops}
use Rattle.session_lines.proofs.SaidLemmas.{said_more, said_end}
use Rattle.session_lines.proofs.changes.put_steps.Goals as goal

pub loop-step-preserved : goal.loop-step-preserved
loop-step-preserved c =
    let (done, so_far, rest) = c.loop-step.invariant in (
      done ++ (comma_after c.loop-step.later ++ said_step c.step-item.result),
      rw (← c.comma.ensures) (so_far >> c.in_ok-put.ensures >> c.in_ok-put_step.ensures),
      said_more said_step done c.args.steps.now c.loop-step.step-index c.loop-step.later c.step-item.result
          (said_list said_step false c.args.steps.now) (omega arith) c.step-item.is rest,
    )

pub returns-in_err-put : goal.returns-in_err-put
returns-in_err-put c =
    let (done, so_far, rest) = c.loop-step.invariant in
    stops c.from_residual.ensures.0 (so_far >> c.in_err-put.ensures)

pub returns-in_err-put_step : goal.returns-in_err-put_step
returns-in_err-put_step c =
    let (done, so_far, rest) = c.loop-step.invariant in
    stops c.from_residual-in_err-put_step.ensures.0
    (so_far >> c.in_ok-put.ensures >> c.in_err-put_step.ensures)

pub returns : goal.returns
returns c =
    let (done, so_far, rest) = c.loop-step.invariant in
    let all = said_end said_step done c.args.steps.now c.loop-step.step-index c.loop-step.later (said_list said_step false c.args.steps.now) (omega arith) rest in
    rw all (so_far >> c.put-2.ensures)
