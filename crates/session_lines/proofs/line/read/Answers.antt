use Rattle.std.proofs.Common.{◌≡◌, true, refl}
use Rattle.std.proofs.lemmas.Str.{is_utf8-from_IsUtf8}
use Rattle.session_lines.proofs.FieldLemmas.{none_read}
use Rattle.session_lines.proofs.line.read.Goals as goal

pub returns-in-Ok-clause-ok : goal.returns-in-Ok-clause-ok
returns-in-Ok-clause-ok c =
    let utf8 = is_utf8-from_IsUtf8 c.args.line.now c.in-Ok.ensures.ok.0 in rw (utf8, c.in-Ok.ensures.ok.1) refl

pub returns-in-Err-2-clause-err : goal.returns-in-Err-2-clause-err
returns-in-Err-2-clause-err c = λ _.
    none_read c.args.line.now (c.in-Err.ensures.err (λ memory. let told : c.is_memory.result ≡ true = c.is_memory.ensures.1 memory in cc))
