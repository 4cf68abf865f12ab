use Rattle.std.proofs.Common.{◌≡◌, ◌++◌, List, ℕ, Ok, false, drop}
use Rattle.std.specs.declared.alloc.AllocError.{AllocError}
use Rattle.session_lines.specs.Words.{said_list}
use Rattle.session_lines.specs.Putting.{Puts}
use Rattle.session_lines.specs.Saying.{said_id}
use Rattle.session_lines.proofs.spans.put_ids.Given as goal

-- some bytes are put, and with what is still to be said they are all
abbrev pub invariant-loop-id : goal.invariant-loop-id
invariant-loop-id l =
    (done : List ℕ)
    × Puts {T = Unit {0}} {E = AllocError} (Ok tt) l.initial.out l.out done
    × (done ++ said_list said_id l.later (drop l.id-index l.ids) ≡ said_list said_id false l.ids)
