use Rattle.std.proofs.Common.{◌≡◌, ◌∙◌, arith, encode_utf8}
use Rattle.span_export.proofs.PutLemmas.{put_more_text}
use Rattle.span_export.proofs.plain_characters.put_characters.Goals as goal

pub loop-character-preserved : goal.loop-character-preserved
loop-character-preserved c =
    let put : c.as_bytes.result.now ≡ encode_utf8 c.character-item.result = c.as_bytes.ensures.value ∙ c.encode_utf8.ensures.value in
    put_more_text _ _ _ c.args.characters.now c.loop-character.character-index c.character-item.result (omega arith) c.character-item.is
    c.loop-character.invariant (rw (← put) c.in_ok-put.ensures)
