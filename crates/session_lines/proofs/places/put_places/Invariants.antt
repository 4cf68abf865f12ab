use Rattle.std.proofs.Common.{◌≡◌, ◌++◌, List, ℕ, Ok, false, drop}
use Rattle.std.specs.declared.alloc.AllocError.{AllocError}
use Rattle.session_lines.specs.Words.{said_list}
use Rattle.session_lines.specs.Putting.{Puts}
use Rattle.session_lines.specs.Saying.{said_place}
use Rattle.session_lines.proofs.places.put_places.Given as goal

-- some bytes are put, and with what is still to be said they are all
abbrev pub invariant-loop-place : goal.invariant-loop-place
invariant-loop-place l =
    (done : List ℕ)
    × Puts {T = Unit {0}} {E = AllocError} (Ok tt) l.initial.out l.out done
    × (done ++ said_list said_place l.later (drop l.place-index l.places) ≡ said_list said_place false l.places)
