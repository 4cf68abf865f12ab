use Rattle.std.proofs.Common.{rules, refl, inl, inr}
use Rattle.change_codec.specs.declared.format.Format.TheVariants.{Third}
use Rattle.piece_codec.specs.Formats.{IsPieceOf}
use Rattle.piece_codec.specs.Record.{BeginsWithPiece}
use Rattle.piece_codec.proofs.PartialLaws.{partial_piece}
use Rattle.piece_codec.proofs.PieceLaws.{begins_piece}
use Rattle.causal_sync.specs.Reading.{record_at}
use Rattle.causal_sync.proofs.TakenRecords.{refused}
use Rattle.causal_sync.proofs.take_content.take_record.Goals as goal

pub returns-in-Ok-Some : goal.returns-in-Ok-Some
unfolding record_at
returns-in-Ok-Some c =
    let found = c.take_piece.ensures.found in
    let of_third : IsPieceOf Third c.in-Ok-Some.piece = search rules in
    let begins : BeginsWithPiece c.args.bytes.now c.in-Ok-Some.piece c.in-Ok-Some.len = search rules in
    rw (begins_piece Third c.args.bytes.now c.in-Ok-Some.piece c.in-Ok-Some.len of_third begins, c.split_at.ensures.back) refl

pub returns-in-Ok-None : goal.returns-in-Ok-None
unfolding record_at
returns-in-Ok-None c =
    inl (rw (partial_piece Third c.args.bytes.now (c.in-Ok-None.ensures.partial.0 (rw c.in-Ok-None.field-0-is refl))) refl)

pub returns-in-Err : goal.returns-in-Err
returns-in-Err c =
    elim c.link_error.ensures [
      | inl memory ↦ inr memory
      | inr other ↦ inl (rw other.1 (refused c.args.bytes.now c.in-Err.fault ((c.in-Err.ensures.fault c.in-Err.fault other.0).0 refl)))
    ]
