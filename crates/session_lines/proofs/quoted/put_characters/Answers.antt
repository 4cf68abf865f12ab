use Rattle.std.proofs.Common.{encode_utf8_all}
use Rattle.session_lines.proofs.PutLemmas.{◌>>◌, stops}
use Rattle.session_lines.proofs.QuotedLemmas.{in_quotes}
use Rattle.session_lines.proofs.quoted.put_characters.Goals as goal

pub returns-in_err-put : goal.returns-in_err-put
returns-in_err-put c = stops c.from_residual.ensures.0 c.in_err-put.ensures

pub returns-in_err-put_inside_characters : goal.returns-in_err-put_inside_characters
returns-in_err-put_inside_characters c =
    stops c.from_residual-in_err-put_inside_characters.ensures.0
    (c.in_ok-put.ensures >> c.in_err-put_inside_characters.ensures)

pub returns : goal.returns
returns c = rw (in_quotes (encode_utf8_all c.args.characters.now)) (c.in_ok-put.ensures >> c.in_ok-put_inside_characters.ensures >> c.put-2.ensures)
