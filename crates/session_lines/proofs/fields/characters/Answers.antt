use Rattle.std.proofs.Common.{◌≡◌, Some, rules}
use Rattle.std.specs.Prelude.{codes}
use Rattle.std.specs.Str.{chars}
use Rattle.std.proofs.lemmas.Str.{chars_from_encodes}
use Rattle.serde_json.specs.View.{view}
use Rattle.session_lines.specs.Fields.{some_characters, text_at}
use Rattle.session_lines.proofs.FieldLemmas.{is_some_characters, or_field_reads}
use Rattle.session_lines.proofs.ReadLemmas.{out_of_memory}
use Rattle.session_lines.proofs.fields.characters.Goals as goal

pub returns-in_err-characters : goal.returns-in_err-characters
returns-in_err-characters c = out_of_memory _ _ c.from_residual.ensures.1

pub returns : goal.returns
returns c =
    let text : text_at (codes "text") (view c.args.value.now) ≡ Some c.in-Some.text.now = search rules in
    let all : c.in_ok-characters.characters.items ≡ chars c.in-Some.text.now = search (rules, chars_from_encodes) in
    let made : c.new.result ≡ some_characters c.in_ok-characters.characters.items =
    is_some_characters c.new.result _ _ c.in_ok-characters.characters.ok.0 c.new.ensures.some c.new.ensures.same in
    rw (c.ok_or.ensures.value, text, made, all) (or_field_reads (some_characters (chars c.in-Some.text.now)))
