use Rattle.session_lines.proofs.PutLemmas.{◌>>◌, stops}
use Rattle.session_lines.proofs.room.put_room.Goals as goal

pub returns-in_err-put_taken : goal.returns-in_err-put_taken
returns-in_err-put_taken c = stops c.from_residual.ensures.0 c.in_err-put_taken.ensures

pub returns-in_err-put_part : goal.returns-in_err-put_part
returns-in_err-put_part c = stops c.from_residual-in_err-put_part.ensures.0 (c.in_ok-put_taken.ensures >> c.in_err-put_part.ensures)

pub returns : goal.returns
returns c = c.in_ok-put_taken.ensures >> c.in_ok-put_part.ensures >> c.put.ensures
