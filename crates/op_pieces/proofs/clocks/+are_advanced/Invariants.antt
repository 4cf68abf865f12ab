use Rattle.std.proofs.Common.{length}
use Rattle.op_pieces.proofs.clocks.+are_advanced.Given as goal

abbrev pub decreases-are_advanced : goal.decreases-are_advanced
decreases-are_advanced l = length l.entries.now
