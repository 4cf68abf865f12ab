use Rattle.std.proofs.Common.{◌≡◌, ap, ◌∙◌}
use Rattle.span_export.specs.Html.{comment_name}
use Rattle.uuid.specs.Text.{lower, hyphenated_text}
use Rattle.span_export.proofs.comment_tags.put_comment_name.Goals as goal

pub returns : goal.returns
returns c =
    let name : c.as_bytes.result.now ≡ comment_name c.args.id =
    c.as_bytes.ensures.value ∙ c.encode_lower-name.ensures.text ∙ ap (hyphenated_text lower) (c.hyphenated.ensures ∙ c.from_bytes.ensures ∙ c.bytes.ensures) in
    rw (← name) c.put_html_text.ensures
