use Rattle.std.proofs.Common.{◌≡◌, drop}
use Rattle.page_file.specs.Pages.{is_zero}
use Rattle.page_file.proofs.loading.are_zero.Given as goal

-- what was passed is zero
abbrev pub invariant-loop-number : goal.invariant-loop-number
invariant-loop-number l = is_zero (drop l.number-index l.numbers) ≡ is_zero l.numbers
