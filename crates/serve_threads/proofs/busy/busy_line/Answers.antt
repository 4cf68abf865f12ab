use Rattle.std.proofs.Common.{arith, refl}
use Rattle.std.proofs.lemmas.Fmt.{decimal_digit}
use Rattle.serve_threads.proofs.busy.busy_line.Goals as goal

-- both are the same bytes
pub returns : goal.returns
returns c = rw (decimal_digit 8 (grind arith)) refl
