use Rattle.span_export.proofs.MarkdownParagraphLemmas.{ended_text}
use Rattle.span_export.proofs.markdown_paragraphs.markdown_paragraphs.Goals as goal

pub returns-clause-shows : goal.returns-clause-shows
returns-clause-shows c = ended_text _ c.args.spans.now _ _ c.new-draft.ensures c.in_ok-add_parted.ensures c.end.ensures
