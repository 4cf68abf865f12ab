use Rattle.std.proofs.Common.{◌≡◌, ◌++◌, List, ℕ, Ok, false, drop}
use Rattle.std.specs.declared.alloc.AllocError.{AllocError}
use Rattle.session_lines.specs.Words.{said_list}
use Rattle.session_lines.specs.Putting.{Puts}
use Rattle.session_lines.specs.Saying.{said_step}
use Rattle.session_lines.proofs.changes.put_steps.Given as goal

-- some bytes are put, and with what is still to be said they are all
abbrev pub invariant-loop-step : goal.invariant-loop-step
invariant-loop-step l =
    (done : List ℕ)
    × Puts {T = Unit {0}} {E = AllocError} (Ok tt) l.initial.out l.out done
    × (done ++ said_list said_step l.later (drop l.step-index l.steps) ≡ said_list said_step false l.steps)
