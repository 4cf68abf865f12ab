use Rattle.std.proofs.Common.{◌≡◌, ◌<◌, length, ap, sym, ◌∙◌, rules}
use Rattle.op_model.specs.Records.{record_length}
use Rattle.piece_codec.specs.Spelling.{run_bytes}
use Rattle.piece_codec.proofs.LengthLaws.{single_long, run_long}
use Rattle.piece_codec.proofs.spelling.piece_length.Goals as goal

pub returns-then-is_empty-clause-value : goal.returns-then-is_empty-clause-value
returns-then-is_empty-clause-value c =
    let p = c.args.piece.now in
    let empty : length c.others-others.result.now ≡ 0 = search rules in
    single_long p.first p.others c.record_length.result (rw c.others-others.ensures.same at empty) (c.record_length.ensures.value ∙ ap record_length c.first.ensures)

pub returns-clause-value : goal.returns-clause-value
returns-clause-value c =
    let p = c.args.piece.now in
    let some : 0 < length c.others-others.result.now = search rules in
    let long : c.body_length.result ≡ length (run_bytes p.first p.others) =
    c.body_length.ensures.value p.others (ap length (sym c.others-others.ensures.same)) ∙ ap (λ op. length (run_bytes op p.others)) c.first-2.ensures in
    run_long p.first p.others c.body_length.result (rw c.others-others.ensures.same at some) long
