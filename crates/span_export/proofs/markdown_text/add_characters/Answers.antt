use Rattle.std.proofs.Common.{◌≡◌, ◌∙◌, arith, encode_utf8}
use Rattle.span_export.proofs.DraftLemmas.{add_characters-more}
use Rattle.span_export.proofs.markdown_text.add_characters.Goals as goal

pub loop-character-preserved : goal.loop-character-preserved
loop-character-preserved c =
    let put : c.as_bytes.result.now ≡ encode_utf8 c.character-item.result = c.as_bytes.ensures.value ∙ c.encode_utf8.ensures.value in
    add_characters-more c.args.characters.now c.loop-character.character-index c.character-item.result c.args.draft.now _ _ (omega arith) c.character-item.is
    c.loop-character.invariant (rw (← put) c.in_ok-add_bytes.ensures)
