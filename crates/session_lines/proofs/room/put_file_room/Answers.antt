use Rattle.session_lines.proofs.PutLemmas.{◌>>◌, stops}
use Rattle.session_lines.proofs.room.put_file_room.Goals as goal

pub returns-in_err-put_taken : goal.returns-in_err-put_taken
returns-in_err-put_taken c = stops c.from_residual.ensures.0 c.in_err-put_taken.ensures

pub returns : goal.returns
returns c = c.in_ok-put_taken.ensures >> c.put.ensures
