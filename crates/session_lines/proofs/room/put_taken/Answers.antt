use Rattle.session_lines.proofs.PutLemmas.{◌>>◌, stops}
use Rattle.session_lines.proofs.room.put_taken.Goals as goal

pub returns-in_err-put_part : goal.returns-in_err-put_part
returns-in_err-put_part c = stops c.from_residual.ensures.0 c.in_err-put_part.ensures

pub returns-in_err-put_part-2 : goal.returns-in_err-put_part-2
returns-in_err-put_part-2 c = stops c.from_residual-in_err-put_part-2.ensures.0 (c.in_ok-put_part.ensures >> c.in_err-put_part-2.ensures)

pub returns-in_err-put_part-3 : goal.returns-in_err-put_part-3
returns-in_err-put_part-3 c =
    stops c.from_residual-in_err-put_part-3.ensures.0
    (c.in_ok-put_part.ensures >> c.in_ok-put_part-2.ensures >> c.in_err-put_part-3.ensures)

pub returns : goal.returns
returns c = c.in_ok-put_part.ensures >> c.in_ok-put_part-2.ensures >> c.in_ok-put_part-3.ensures >> c.put_part-4.ensures
