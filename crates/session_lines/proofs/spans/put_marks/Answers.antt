use Rattle.session_lines.proofs.PutLemmas.{◌>>◌, stops}
use Rattle.session_lines.proofs.spans.put_marks.Goals as goal

pub returns-in_err-put_comments : goal.returns-in_err-put_comments
returns-in_err-put_comments c = stops c.from_residual.ensures.0 c.in_err-put_comments.ensures

pub returns-in_err-put_mark : goal.returns-in_err-put_mark
returns-in_err-put_mark c = stops c.from_residual-in_err-put_mark.ensures.0 (c.in_ok-put_comments.ensures >> c.in_err-put_mark.ensures)

pub returns-in_err-put_link : goal.returns-in_err-put_link
returns-in_err-put_link c =
    stops c.from_residual-in_err-put_link.ensures.0
    (c.in_ok-put_comments.ensures >> c.in_ok-put_mark.ensures >> c.in_err-put_link.ensures)

pub returns : goal.returns
returns c = rw (← c.as_slice.ensures) (c.in_ok-put_comments.ensures >> c.in_ok-put_mark.ensures >> c.in_ok-put_link.ensures >> c.put_mark-2.ensures)
