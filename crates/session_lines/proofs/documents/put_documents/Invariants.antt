use Rattle.std.proofs.Common.{◌≡◌, ◌++◌, List, ℕ, Ok, false, drop}
use Rattle.std.specs.declared.alloc.AllocError.{AllocError}
use Rattle.session_lines.specs.Words.{said_list}
use Rattle.session_lines.specs.Counting.{said_document}
use Rattle.session_lines.specs.Putting.{Puts}
use Rattle.session_lines.proofs.documents.put_documents.Given as goal

-- some bytes are put, and with what is still to be said they are all
abbrev pub invariant-loop-counts : goal.invariant-loop-counts
invariant-loop-counts l =
    (done : List ℕ)
    × Puts {T = Unit {0}} {E = AllocError} (Ok tt) l.initial.out l.out done
    × (done ++ said_list said_document l.later (drop l.counts-index l.documents) ≡ said_list said_document false l.documents)
