use Rattle.std.proofs.Common.{take, ap, sym, ◌∙◌, arith}
use Rattle.std.proofs.lemmas.Bool.{lt-leb}
use Rattle.char_sequence.specs.Cells.{has_cell}
use Rattle.char_sequence.specs.Chunks.{cells_of}
use Rattle.span_flatten.proofs.SpotLemmas.{before_chunk, nowhere_before}
use Rattle.span_flatten.proofs.spot.behind.Goals as goal

pub returns-in-Some : goal.returns-in-Some
returns-in-Some c = λ i border.
    let held = c.args.sequence.now in
    before_chunk held c.in-Some.chunk i c.anchor_id.result border.once c.in-Some.ensures.1
    ∙ ap (λ id. has_cell (cells_of (take i held)) id) c.anchor_id.ensures

pub returns-in-None : goal.returns-in-None
returns-in-None c = λ i border.
    let held = c.args.sequence.now in
    lt-leb 18446744073709551615 i (let within = border.within in let many = c.are_sized.ensures.many in omega arith)
    ∙ sym (nowhere_before held i c.anchor_id.result c.in-None.ensures)
    ∙ ap (λ id. has_cell (cells_of (take i held)) id) c.anchor_id.ensures
