use Rattle.std.proofs.Common.{arith}
use Rattle.span_export.proofs.HtmlParagraphLemmas.{put_more_spans}
use Rattle.span_export.proofs.html_paragraphs.put_parted.Goals as goal

pub loop-span-preserved : goal.loop-span-preserved
loop-span-preserved c =
    put_more_spans _ _ _ c.args.spans.now c.loop-span.span-index _ (omega arith) c.span-item.is c.loop-span.invariant
    (rw c.as_slice.ensures at c.in_ok-put_parted_span.ensures)
