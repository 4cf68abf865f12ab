use Rattle.std.proofs.Common.{◌≡◌, ap, Err}
use Rattle.std.proofs.lemmas.Result.{err_from_is_err_and}
use Rattle.op_ids.specs.declared.clock_error.ClockError.TheVariants.{Limit}
use Rattle.slow_programs.proofs.Full.{is_full_front}
use Rattle.slow_programs.proofs.numbering.clock_of.Goals as goal

pub returns-in_err-advance-clause-limit : goal.returns-in_err-advance-clause-limit
returns-in_err-advance-clause-limit c =
    let p = err_from_is_err_and c.from_residual.result c.from_residual.ensures.1 in
    rw (p.1, p.2) (λ limit.
    let same : c.in_err-advance.field-0.0 ≡ Limit = cc in
    let full = c.in_err-advance.ensures.full (ap Err same) in
    is_full_front c.args.ops.now c.loop-i.i c.index-ops-i.result c.loop-i.clock c.replica.result c.loop-i-test.true
    c.loop-i.invariant.within c.loop-i.invariant.clock c.replica.ensures full)
