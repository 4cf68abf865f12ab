use Rattle.std.proofs.Common.{arith}
use Rattle.span_export.proofs.DraftLemmas.{add_spans-more}
use Rattle.span_export.proofs.markdown_page.add_spans.Goals as goal

pub loop-span-preserved : goal.loop-span-preserved
loop-span-preserved c =
    add_spans-more c.args.spans.now c.loop-span.span-index _ c.args.draft.now _ _ (omega arith) c.span-item.is c.loop-span.invariant c.in_ok-add_span.ensures
