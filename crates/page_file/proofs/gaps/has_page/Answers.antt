use Rattle.std.proofs.Common.{sym}
use Rattle.page_file.proofs.GapLemmas.{in_part}
use Rattle.page_file.proofs.gaps.has_page.Goals as goal

pub returns-in-Some : goal.returns-in-Some
returns-in-Some c = sym (in_part c.args.page c.in-Some.field-0 c.args.gaps.now c.in-Some.ensures)
