use Rattle.std.proofs.Common.{sym, ◌∙◌}
use Rattle.session_lines.proofs.PutLemmas.{◌>>◌, stops}
use Rattle.session_lines.proofs.SaidLemmas.{said_some_comments}
use Rattle.session_lines.proofs.spans.put_comments.Goals as goal

pub returns-in_err-put : goal.returns-in_err-put
returns-in_err-put c = stops c.from_residual.ensures.0 c.in_err-put.ensures

pub returns-in_err-put_ids : goal.returns-in_err-put_ids
returns-in_err-put_ids c = stops c.from_residual-in_err-put_ids.ensures.0 (c.in_ok-put.ensures >> c.in_err-put_ids.ensures)

pub returns : goal.returns
returns c =
    rw (said_some_comments c.args.ids.now (sym c.is_empty.ensures ∙ c.if-is_empty.false))
    (c.in_ok-put.ensures >> c.in_ok-put_ids.ensures >> c.put-2.ensures)
