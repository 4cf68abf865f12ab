use Rattle.std.proofs.Common.{◌++◌, false, arith}
use Rattle.session_lines.specs.Counting.{said_version}
use Rattle.session_lines.specs.Words.{comma_after, said_list}
use Rattle.session_lines.proofs.PutLemmas.{◌>>◌, stops}
use Rattle.session_lines.proofs.SaidLemmas.{said_more, said_end}
use Rattle.session_lines.proofs.versions.put_versions.Goals as goal

pub loop-version-preserved : goal.loop-version-preserved
loop-version-preserved c =
    let (done, so_far, rest) = c.loop-version.invariant in (
      done ++ (comma_after c.loop-version.later ++ said_version c.version-item.result),
      rw (← c.comma.ensures) (so_far >> c.in_ok-put.ensures >> c.in_ok-put_version.ensures),
      said_more said_version done c.args.versions.now c.loop-version.version-index c.loop-version.later c.version-item.result
          (said_list said_version false c.args.versions.now) (omega arith) c.version-item.is rest,
    )

pub returns-in_err-put : goal.returns-in_err-put
returns-in_err-put c =
    let (done, so_far, rest) = c.loop-version.invariant in
    stops c.from_residual.ensures.0 (so_far >> c.in_err-put.ensures)

pub returns-in_err-put_version : goal.returns-in_err-put_version
returns-in_err-put_version c =
    let (done, so_far, rest) = c.loop-version.invariant in
    stops c.from_residual-in_err-put_version.ensures.0
    (so_far >> c.in_ok-put.ensures >> c.in_err-put_version.ensures)

pub returns : goal.returns
returns c =
    let (done, so_far, rest) = c.loop-version.invariant in
    let all = said_end said_version done c.args.versions.now c.loop-version.version-index c.loop-version.later (said_list said_version false c.args.versions.now) (omega arith) rest in
    rw all (so_far >> c.put-2.ensures)
