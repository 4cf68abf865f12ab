use Rattle.std.proofs.Common.{sym, ◌∙◌}
use Rattle.char_sequence.proofs.SizeLemmas.{none_long, size_read}
use Rattle.char_sequence.proofs.finding.cells_in.Goals as goal

pub returns-in-Some : goal.returns-in-Some
returns-in-Some c = (size_read c.args.chunks.now c.args.i c.in-Some.size (sym c.chunk.ensures.size ∙ c.in-Some.is)).1

pub returns-in-None : goal.returns-in-None
returns-in-None c = sym (none_long c.args.chunks.now c.args.i (sym c.chunk.ensures.size ∙ c.in-None.is))
