use Rattle.std.proofs.Common.{sym, ◌∙◌}
use Rattle.char_sequence.proofs.FindLemmas.{passed_all_chunks}
use Rattle.char_sequence.proofs.SizeLemmas.{none_read}
use Rattle.char_sequence.proofs.finding.in_all.Goals as goal

pub returns : goal.returns
returns c =
    passed_all_chunks c.args.chunks.now c.loop-found.i c.args.id.now
    (none_read c.args.chunks.now c.loop-found.i (sym c.chunk.ensures.size ∙ c.in_default.is)) c.loop-found.invariant
