use Rattle.std.proofs.Common.{◌≡◌}
use Rattle.session_lines.specs.Fields.{non_zero}
use Rattle.session_lines.proofs.FieldLemmas.{is_non_zero, or_field_reads}
use Rattle.session_lines.proofs.fields.count.Goals as goal

pub returns : goal.returns
returns c =
    let number : c.new.result ≡ non_zero c.in_ok-count.count = is_non_zero c.new.result c.in_ok-count.count c.new.ensures in
    rw (c.ok_or.ensures.value, number, c.in_ok-count.ensures) (or_field_reads (non_zero c.in_ok-count.count))
