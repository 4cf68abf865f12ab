use Rattle.std.proofs.Common.{ap, ◌∙◌}
use Rattle.std.proofs.lemmas.Bool.{both_ways}
use Rattle.char_sequence.specs.Cells.{has_cell}
use Rattle.char_sequence.specs.Chunks.{cells_of}
use Rattle.span_flatten.specs.Spots.{has_chunk}
use Rattle.span_flatten.proofs.SpotLemmas.{in_all, one_chunk}
use Rattle.span_flatten.proofs.touched.Touched.note.Goals as goal

pub returns-in_ok-insert-clause-noted : goal.returns-in_ok-insert-clause-noted
returns-in_ok-insert-clause-noted c = λ once i there.
    ap (has_chunk (record { chunks = c.insert.new.self })) (one_chunk c.args.sequence.now i c.in-Some.chunk c.args.id once there c.in-Some.ensures.1)
    ∙ c.in_ok-insert.ensures.updates.1

pub returns-in_default-clause-noted : goal.returns-in_default-clause-noted
returns-in_default-clause-noted c = λ once i there.
    absurd (both_ways (has_cell (cells_of c.args.sequence.now) c.args.id) c.in_default.ensures (in_all c.args.sequence.now i c.args.id there))
