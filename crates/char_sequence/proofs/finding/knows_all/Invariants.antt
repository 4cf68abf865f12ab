use Rattle.std.proofs.Common.{◌≡◌, drop}
use Rattle.std.specs.List.{list_all}
use Rattle.char_sequence.specs.Cells.{has_cell}
use Rattle.char_sequence.specs.Chunks.{cells_of}
use Rattle.char_sequence.proofs.finding.knows_all.Given as goal

-- all are there if those are that weren't passed
abbrev pub invariant-loop-id : goal.invariant-loop-id
invariant-loop-id l =
    list_all (λ id. has_cell (cells_of l.chunks) id) l.ids ≡ list_all (λ id. has_cell (cells_of l.chunks) id) (drop l.id-index l.ids)
