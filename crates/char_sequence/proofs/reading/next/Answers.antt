use Rattle.std.proofs.Common.{sym, ◌∙◌, arith}
use Rattle.char_sequence.proofs.PlaceLemmas.{chunk_of_place, fits_behind, nothing_from, passes_here, passes_next}
use Rattle.char_sequence.proofs.reading.next.Goals as goal

pub overflow_add-behind : goal.overflow_add-behind
overflow_add-behind c =
    let few = fits_behind c.args.chunks.now c.args.place.now.chunk c.args.place.now.at c.in-Some.cell c.are_sized.ensures.chunks.sized
    (sym c.in-Some.ensures.cell) in
    omega arith

pub returns-in-Some : goal.returns-in-Some
returns-in-Some c = passes_here c.args.chunks.now c.args.place.now c.in-Some.cell (sym c.in-Some.ensures.cell)

pub overflow_add-place : goal.overflow_add-place
overflow_add-place c =
    let within = chunk_of_place c.args.chunks.now c.args.place.now.chunk c.args.place.now.at c.requires in
    let many = c.are_sized.ensures.many in
    omega arith

pub overflow_add-result : goal.overflow_add-result
overflow_add-result c =
    let within = chunk_of_place c.args.chunks.now c.args.place.now.chunk c.args.place.now.at c.requires in
    let many = c.are_sized.ensures.many in
    omega arith

pub returns-in-Some-cell : goal.returns-in-Some-cell
returns-in-Some-cell c =
    passes_next c.args.chunks.now c.args.place.now c.in-Some-cell.cell (sym c.cell.ensures.cell ∙ c.in_default.is) (sym c.in-Some-cell.ensures.cell)

pub returns-in-None : goal.returns-in-None
returns-in-None c =
    nothing_from c.args.chunks.now c.args.place.now.chunk c.args.place.now.at c.are_sized.ensures.chunks.sized
    (sym c.cell.ensures.cell ∙ c.in_default.is) (sym c.cell-2.ensures.cell ∙ c.in-None.is)
