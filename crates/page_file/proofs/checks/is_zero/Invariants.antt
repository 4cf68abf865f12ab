use Rattle.std.proofs.Common.{◌≡◌, drop}
use Rattle.page_file.specs.Pages.{is_zero}
use Rattle.page_file.proofs.checks.is_zero.Given as goal

-- what was passed is zero
abbrev pub invariant-loop-byte : goal.invariant-loop-byte
invariant-loop-byte l = is_zero (drop l.byte-index l.bytes) ≡ is_zero l.bytes
