use Rattle.std.proofs.Common.{drop}
use Rattle.stream_list.proofs.PackLemmas.{Packs}
use Rattle.stream_list.proofs.packing.packed.Given as goal

abbrev pub invariant-loop-i : goal.invariant-loop-i
invariant-loop-i l = Packs l.list l.out.items l.cutter (drop l.i l.list)
