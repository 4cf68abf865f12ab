use Rattle.std.proofs.Common.{◌≡◌, drop}
use Rattle.page_file.specs.Pages.{has}
use Rattle.page_file.proofs.checks.has.Given as goal

-- what was passed isn't the number
abbrev pub invariant-loop-other : goal.invariant-loop-other
invariant-loop-other l = has l.number (drop l.other-index l.others) ≡ has l.number l.others
