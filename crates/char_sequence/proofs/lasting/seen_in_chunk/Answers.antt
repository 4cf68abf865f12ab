use Rattle.std.proofs.Common.{[], get_or, sym, ◌∙◌, arith}
use Rattle.char_sequence.proofs.SizeLemmas.{none_long}
use Rattle.char_sequence.proofs.SumLemmas.{seen_few}
use Rattle.char_sequence.proofs.lasting.seen_in_chunk.Goals as goal

pub returns-in-None-clause-seen : goal.returns-in-None-clause-seen
returns-in-None-clause-seen c =
    let none = none_long c.args.chunks.now c.args.i (sym c.chunk.ensures.size ∙ c.in-None.is) in
    let few = seen_few (get_or c.args.chunks.now c.args.i []) in
    omega arith
