use Rattle.std.proofs.Common.{◌≡◌}
use Rattle.std.specs.Prelude.{is_some}
use Rattle.piece_codec.specs.Spelling.{origin_of}
use Rattle.piece_codec.proofs.Lengths.{run_length, few_bytes}
use Rattle.piece_codec.proofs.spelling.body_length.Goals as goal

pub returns-clause-value : goal.returns-clause-value
returns-clause-value c = λ vs len.
    let origin : c.is_some-2.result ≡ is_some (origin_of c.args.first.now.body) = rw c.insert_of-origin.ensures at c.is_some-2.ensures in
    run_length c.args.first.now vs c.head_length.result c.token_length.result c.place_length.result c.args.others c.is_some.result c.is_some-2.result
    (rw c.len.ensures.value at c.head_length.ensures.value) c.is_some.ensures c.token_length.ensures origin c.place_length.ensures len

pub returns-clause-within : goal.returns-clause-within
returns-clause-within c =
    few_bytes c.head_length.result c.token_length.result c.place_length.result c.args.others c.is_some.result c.is_some-2.result c.len.result
    c.len.ensures.within c.head_length.ensures.value c.token_length.ensures c.place_length.ensures c.requires
