use Rattle.session_lines.proofs.ReadLemmas.{refused, step}
use Rattle.session_lines.proofs.edits.edits.Goals as goal

pub returns-in_err-only : goal.returns-in_err-only
returns-in_err-only c =
    refused _ _ _ c.from_residual.ensures.1 c.in_err-only.ensures

pub returns-in_err-doc : goal.returns-in_err-doc
returns-in_err-doc c =
    step _ _ _ c.in_ok-only.ensures (refused _ _ _ c.from_residual-in_err-doc.ensures.1 c.in_err-doc.ensures)

pub returns-in_err-rev : goal.returns-in_err-rev
returns-in_err-rev c =
    step _ _ _ c.in_ok-only.ensures (step _ _ _ c.in_ok-doc.ensures (refused _ _ _ c.from_residual-in_err-rev.ensures.1 c.in_err-rev.ensures))

pub returns-in_err-token : goal.returns-in_err-token
returns-in_err-token c =
    step _ _ _ c.in_ok-only.ensures (step _ _ _ c.in_ok-doc.ensures (step _ _ _ c.in_ok-rev.ensures (refused _ _ _ c.from_residual-in_err-token.ensures.1 c.in_err-token.ensures)))
