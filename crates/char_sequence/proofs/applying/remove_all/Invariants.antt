use Rattle.std.proofs.Common.{◌≡◌, true}
use Rattle.std.specs.List.{list_all}
use Rattle.char_sequence.specs.Cells.{has_cell}
use Rattle.char_sequence.specs.Chunks.{cells_of}
use Rattle.char_sequence.specs.Weave.{AreOnce}
use Rattle.char_sequence.proofs.ApplyLemmas.{Left}
use Rattle.char_sequence.proofs.applying.remove_all.Given as goal

-- those that were passed are removed
abbrev pub invariant-loop-id : goal.invariant-loop-id
invariant-loop-id l =
    list_all (λ id. has_cell (cells_of l.fn.chunks) id) l.ids ≡ true → AreOnce (cells_of l.fn.chunks)
    → Left l.ids l.id-index (cells_of l.fn.chunks) (cells_of l.chunks)
