use Rattle.std.proofs.Common.{None}
use Rattle.watch_lines.proofs.RisingLemmas.{told_rises}
use Rattle.watch_lines.proofs.laws.told_numbers_rise.Goals as goal

pub returns : goal.returns
returns c = λ given. told_rises None given
