use Rattle.std.proofs.Common.{arith}
use Rattle.span_export.proofs.DraftLemmas.{add_bytes-more}
use Rattle.span_export.proofs.markdown_text.add_bytes.Goals as goal

pub loop-byte-preserved : goal.loop-byte-preserved
loop-byte-preserved c =
    add_bytes-more c.args.bytes.now c.loop-byte.byte-index c.args.draft.now _ _ (omega arith) c.loop-byte.invariant c.in_ok-add_byte.ensures
