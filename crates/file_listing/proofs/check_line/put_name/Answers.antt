use Rattle.std.proofs.Common.{◌≡◌, ap, ◌∙◌}
use Rattle.std.specs.Int.{w128, to_be_bytes}
use Rattle.uuid.specs.Text.{lower, hyphenated_text}
use Rattle.file_listing.proofs.check_line.put_name.Goals as goal

pub returns : goal.returns
returns c =
    let name : c.as_bytes.result.now ≡ hyphenated_text lower (to_be_bytes w128 c.args.replica) =
    c.as_bytes.ensures.value ∙ c.encode_lower-name.ensures.text
    ∙ ap (hyphenated_text lower) (c.hyphenated.ensures ∙ c.from_bytes.ensures ∙ c.bytes.ensures) in
    rw (← name) c.put.ensures
