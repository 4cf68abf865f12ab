use Rattle.std.proofs.Common.{◌≡◌, sym, ap, ◌∙◌}
use Rattle.std.specs.Int.{w128, to_be_bytes}
use Rattle.uuid.specs.Text.{lower, hyphenated_text}
use Rattle.session_lines.proofs.PutLemmas.{◌>>◌, stops}
use Rattle.session_lines.proofs.places.put_id.Goals as goal

pub returns-in_err-put_number : goal.returns-in_err-put_number
returns-in_err-put_number c = stops c.from_residual.ensures.0 c.in_err-put_number.ensures

pub returns-in_err-put : goal.returns-in_err-put
returns-in_err-put c = stops c.from_residual-in_err-put.ensures.0 (c.in_ok-put_number.ensures >> c.in_err-put.ensures)

pub returns : goal.returns
returns c =
    let name : c.as_bytes.result.now ≡ hyphenated_text lower (to_be_bytes w128 c.args.id.replica) =
    c.as_bytes.ensures.value ∙ c.encode_lower-name.ensures.text
    ∙ ap (hyphenated_text lower) (c.hyphenated.ensures ∙ c.from_bytes.ensures ∙ c.bytes.ensures ∙ ap (to_be_bytes w128) c.replica.ensures) in
    rw (sym name, ← c.counter.ensures.value) (c.in_ok-put_number.ensures >> c.in_ok-put.ensures >> c.put-2.ensures)
