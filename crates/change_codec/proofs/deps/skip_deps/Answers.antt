use Rattle.std.proofs.lemmas.Result.{err_from_is_err_and}
use Rattle.change_codec.proofs.Clocks.{skipped, count_faulty}
use Rattle.change_codec.proofs.deps.skip_deps.Goals as goal

pub returns-in_err-count : goal.returns-in_err-count
returns-in_err-count c =
    let p = err_from_is_err_and c.from_residual.result c.from_residual.ensures.1 in
    rw (p.1, p.2) (count_faulty c.args.bytes.now c.in_err-count.field-0.0 c.in_err-count.ensures)

pub returns : goal.returns
returns c = skipped c.args.bytes.now c.in_ok-count.count c.in_ok-count.rest.now c.skip_entries.result c.in_ok-count.ensures c.skip_entries.ensures
