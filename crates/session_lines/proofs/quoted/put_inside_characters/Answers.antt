use Rattle.std.proofs.Common.{◌≡◌, ◌∙◌, arith, encode_utf8}
use Rattle.session_lines.proofs.PutLemmas.{◌>>◌, stops}
use Rattle.session_lines.proofs.QuotedLemmas.{inside_characters-more}
use Rattle.session_lines.proofs.quoted.put_inside_characters.Goals as goal

pub loop-character-preserved : goal.loop-character-preserved
loop-character-preserved c =
    let put : c.as_bytes.result.now ≡ encode_utf8 c.character-item.result = c.as_bytes.ensures.value ∙ c.encode_utf8.ensures.value in
    rw (inside_characters-more c.args.characters.now c.loop-character.character-index c.character-item.result (omega arith) c.character-item.is, ← put)
    (c.loop-character.invariant >> c.in_ok-put_inside.ensures)

pub returns-in_err-put_inside : goal.returns-in_err-put_inside
returns-in_err-put_inside c =
    stops c.from_residual.ensures.0 (c.loop-character.invariant >> c.in_err-put_inside.ensures)
