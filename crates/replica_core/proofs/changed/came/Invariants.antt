use Rattle.replica_core.proofs.CameLemmas.{IsBack}
use Rattle.replica_core.proofs.changed.came.Given as goal

-- what was gone over is noted
abbrev pub invariant-back : goal.invariant-back
invariant-back l = IsBack l.came l.list l.doc l.count l.left l.next

-- the operations that weren't gone over
abbrev pub decreases-back : goal.decreases-back
decreases-back l = l.next
