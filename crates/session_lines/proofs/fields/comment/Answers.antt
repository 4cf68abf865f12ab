use Rattle.std.proofs.Common.{◌≡◌, None, rules}
use Rattle.uuid.specs.Text.{parsed}
use Rattle.session_lines.proofs.FieldLemmas.{no_value}
use Rattle.session_lines.proofs.fields.comment.Goals as goal

pub returns-in-Err : goal.returns-in-Err
returns-in-Err c =
    let none : parsed c.in-Some.text.now ≡ None = no_value _ c.in-Err.ensures.ok.1 in search (rules, none)
