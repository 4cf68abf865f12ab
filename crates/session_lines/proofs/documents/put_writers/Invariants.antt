use Rattle.std.proofs.Common.{◌≡◌, ◌++◌, List, ℕ, Ok, false, drop}
use Rattle.std.specs.declared.alloc.AllocError.{AllocError}
use Rattle.session_lines.specs.Words.{said_list, said_replica}
use Rattle.session_lines.specs.Putting.{Puts}
use Rattle.session_lines.proofs.documents.put_writers.Given as goal

-- some bytes are put, and with what is still to be said they are all
abbrev pub invariant-loop-writer : goal.invariant-loop-writer
invariant-loop-writer l =
    (done : List ℕ)
    × Puts {T = Unit {0}} {E = AllocError} (Ok tt) l.initial.out l.out done
    × (done ++ said_list said_replica l.later (drop l.writer-index l.writers) ≡ said_list said_replica false l.writers)
