use Rattle.std.proofs.Common.{◌≡◌, ◌++◌, List, ℕ, Ok, false, drop}
use Rattle.std.specs.declared.alloc.AllocError.{AllocError}
use Rattle.session_lines.specs.Words.{said_list}
use Rattle.session_lines.specs.Putting.{Puts}
use Rattle.session_lines.specs.Counting.{said_version}
use Rattle.session_lines.proofs.versions.put_versions.Given as goal

-- some bytes are put, and with what is still to be said they are all
abbrev pub invariant-loop-version : goal.invariant-loop-version
invariant-loop-version l =
    (done : List ℕ)
    × Puts {T = Unit {0}} {E = AllocError} (Ok tt) l.initial.out l.out done
    × (done ++ said_list said_version l.later (drop l.version-index l.versions) ≡ said_list said_version false l.versions)
