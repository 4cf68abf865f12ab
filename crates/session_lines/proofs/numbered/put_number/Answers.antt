use Rattle.std.proofs.Common.{◌≡◌, ◌∙◌, decimal}
use Rattle.session_lines.proofs.numbered.put_number.Goals as goal

pub returns : goal.returns
returns c =
    let number : c.as_bytes.result.now ≡ decimal c.args.number = c.as_bytes.ensures.value ∙ c.format.ensures.text in
    rw (← number) c.put.ensures
