use Rattle.op_pieces.proofs.LengthLemmas.{next_is_long}
use Rattle.op_pieces.proofs.lengths.next_length.Goals as goal

pub returns-clause-value : goal.returns-clause-value
returns-clause-value c =
    next_is_long c.args.op.now c.head_length.result c.token_length.result c.insert_length.result c.next_deps.result c.is_some.result
    c.head_length.ensures.value c.next_deps.ensures.value c.is_some.ensures c.token_length.ensures c.insert_length.ensures
