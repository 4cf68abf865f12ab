use Rattle.std.proofs.Common.{◌+◌, ◌∙◌, ap, sym}
use Rattle.op_model.specs.Records.{record_length}
use Rattle.op_pieces.specs.Pieces.{next_typed}
use Rattle.op_pieces.proofs.LengthLemmas.{typed_length}
use Rattle.op_pieces.proofs.piece.Piece.records_length.Goals as goal

pub returns-clause-value : goal.returns-clause-value
returns-clause-value c =
    let p = c.args.self.now in
    rw (c.record_length.ensures.value, c.first.ensures, c.others.ensures.same)
    (λ i. record_length p.first + sym (typed_length p.first p.others c.next_length.result (λ v. c.next_length.ensures.value v ∙ ap (λ o. record_length (next_typed o v)) c.first-2.ensures)) i)
