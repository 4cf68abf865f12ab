use Rattle.std.proofs.Common.{arith}
use Rattle.span_export.proofs.MarkdownParagraphLemmas.{written_more}
use Rattle.span_export.proofs.markdown_paragraphs.add_parted.Goals as goal

pub loop-span-preserved : goal.loop-span-preserved
loop-span-preserved c =
    written_more c.args.spans.now c.loop-span.span-index _ c.args.draft.now _ _ (omega arith) c.span-item.is c.loop-span.invariant
    (rw c.as_slice.ensures at c.in_ok-add_parted_span.ensures)
