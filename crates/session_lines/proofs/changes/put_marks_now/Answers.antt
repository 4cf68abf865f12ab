use Rattle.session_lines.proofs.PutLemmas.{◌>>◌, stops}
use Rattle.session_lines.proofs.changes.put_marks_now.Goals as goal

pub returns-in_err-put_comments_now : goal.returns-in_err-put_comments_now
returns-in_err-put_comments_now c = stops c.from_residual.ensures.0 c.in_err-put_comments_now.ensures

pub returns-in_err-put_flag : goal.returns-in_err-put_flag
returns-in_err-put_flag c = stops c.from_residual-in_err-put_flag.ensures.0 (c.in_ok-put_comments_now.ensures >> c.in_err-put_flag.ensures)

pub returns-in_err-put : goal.returns-in_err-put
returns-in_err-put c =
    stops c.from_residual-in_err-put.ensures.0
    (c.in_ok-put_comments_now.ensures >> c.in_ok-put_flag.ensures >> c.in_err-put.ensures)

pub returns-in_err-put_link_now : goal.returns-in_err-put_link_now
returns-in_err-put_link_now c =
    stops c.from_residual-in_err-put_link_now.ensures.0
    (c.in_ok-put_comments_now.ensures >> c.in_ok-put_flag.ensures >> c.in_ok-put.ensures >> c.in_err-put_link_now.ensures)

pub returns-in_err-put_flag-2 : goal.returns-in_err-put_flag-2
returns-in_err-put_flag-2 c =
    stops c.from_residual-in_err-put_flag-2.ensures.0
    (c.in_ok-put_comments_now.ensures >> c.in_ok-put_flag.ensures >> c.in_ok-put.ensures >> c.in_ok-put_link_now.ensures >> c.in_err-put_flag-2.ensures)

pub returns : goal.returns
returns c =
    rw (← c.as_slice.ensures)
    (c.in_ok-put_comments_now.ensures >> c.in_ok-put_flag.ensures >> c.in_ok-put.ensures >> c.in_ok-put_link_now.ensures >> c.in_ok-put_flag-2.ensures >> c.put-2.ensures)
