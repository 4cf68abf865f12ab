use Rattle.span_export.proofs.MarkdownLemmas.{finished_text}
use Rattle.span_export.proofs.markdown_page.markdown.Goals as goal

pub returns-clause-shows : goal.returns-clause-shows
returns-clause-shows c = finished_text _ c.args.spans.now _ _ c.new-draft.ensures c.in_ok-add_spans.ensures c.finish.ensures
