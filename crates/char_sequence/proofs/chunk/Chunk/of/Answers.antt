use Rattle.std.proofs.Common.{not, sym, ◌∙◌}
use Rattle.std.proofs.lemmas.List.Sums.{length-filter}
use Rattle.char_sequence.specs.declared.cell.Cell.{Cell}
use Rattle.char_sequence.proofs.ChunkLemmas.{counted}
use Rattle.char_sequence.proofs.chunk.Chunk.of.Goals as goal

pub invariant_of-result : goal.invariant_of-result
invariant_of-result c =
    let many = c.shown_in.ensures ∙ sym (length-filter (λ (d : Cell). not d.is_removed) c.args.cells.now) in
    counted c.args.cells.now _ _ c.in_ok-of.ensures many c.requires.some c.requires.few
