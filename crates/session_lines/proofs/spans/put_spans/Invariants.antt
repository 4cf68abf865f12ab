use Rattle.std.proofs.Common.{◌≡◌, ◌++◌, List, ℕ, Ok, false, drop}
use Rattle.std.specs.declared.alloc.AllocError.{AllocError}
use Rattle.session_lines.specs.Words.{said_list}
use Rattle.session_lines.specs.Putting.{Puts}
use Rattle.session_lines.specs.Saying.{said_span}
use Rattle.session_lines.proofs.spans.put_spans.Given as goal

-- some bytes are put, and with what is still to be said they are all
abbrev pub invariant-loop-span : goal.invariant-loop-span
invariant-loop-span l =
    (done : List ℕ)
    × Puts {T = Unit {0}} {E = AllocError} (Ok tt) l.initial.out l.out done
    × (done ++ said_list said_span l.later (drop l.span-index l.spans) ≡ said_list said_span false l.spans)
