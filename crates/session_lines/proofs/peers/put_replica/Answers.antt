use Rattle.std.proofs.Common.{◌≡◌, sym, ap, ◌∙◌}
use Rattle.std.specs.Int.{w128, to_be_bytes}
use Rattle.uuid.specs.Text.{lower, hyphenated_text}
use Rattle.session_lines.proofs.peers.put_replica.Goals as goal

pub returns : goal.returns
returns c =
    let name : c.encode_lower-name.result.now ≡ hyphenated_text lower (to_be_bytes w128 c.args.replica) =
    c.encode_lower-name.ensures.text ∙ ap (hyphenated_text lower) (c.hyphenated.ensures ∙ c.from_bytes.ensures ∙ c.bytes.ensures) in
    rw (sym name) c.put_quoted.ensures
