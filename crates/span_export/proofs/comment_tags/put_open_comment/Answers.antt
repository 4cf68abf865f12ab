use Rattle.std.proofs.Common.{◌++◌, codes}
use Rattle.span_export.specs.HtmlText.{html_text}
use Rattle.span_export.specs.Html.{comment_name}
use Rattle.span_export.proofs.PutLemmas.{then_puts}
use Rattle.span_export.proofs.comment_tags.put_open_comment.Goals as goal

pub returns : goal.returns
returns c =
    then_puts _ _ _ _ (codes "<span data-comment=\"") (html_text (comment_name c.args.id) ++ codes "\">") c.in_ok-put.ensures
    (then_puts _ _ _ _ (html_text (comment_name c.args.id)) (codes "\">") c.in_ok-put_comment_name.ensures c.put-2.ensures)
