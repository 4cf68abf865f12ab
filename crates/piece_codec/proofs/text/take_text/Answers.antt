use Rattle.std.proofs.Common.{inl, inr}
use Rattle.piece_codec.proofs.Scalars.{text_collected, text_fails, text_faulty}
use Rattle.piece_codec.proofs.text.take_text.Goals as goal

pub returns-in-Ok-collect_scalars : goal.returns-in-Ok-collect_scalars
returns-in-Ok-collect_scalars c =
    text_collected c.args.others c.args.bytes.now c.in-Ok.first c.in-Ok.rest.now c.in-Ok-collect_scalars.others.items c.in_ok-test_text.ensures c.in-Ok.ensures c.in-Ok-collect_scalars.ensures

pub returns-in-Err-collect_scalars : goal.returns-in-Err-collect_scalars
returns-in-Err-collect_scalars c =
    elim c.in-Err-collect_scalars.ensures [
      | inl fault ↦ absurd (text_fails c.args.others c.args.bytes.now c.in-Ok.first c.in-Ok.rest.now c.in-Err-collect_scalars.fault c.in_ok-test_text.ensures c.in-Ok.ensures fault)
      | inr memory ↦ inr (memory, c.in_ok-test_text.ensures)
    ]

pub returns-in-Err : goal.returns-in-Err
returns-in-Err c = inl (text_faulty c.args.others c.args.bytes.now c.in-Err.fault c.in-Err.ensures)
