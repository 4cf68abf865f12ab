use Rattle.std.proofs.Common.{Ok, take}
use Rattle.std.specs.declared.alloc.AllocError.{AllocError}
use Rattle.session_lines.specs.Putting.{Puts, inside}
use Rattle.session_lines.proofs.quoted.put_inside.Given as goal

-- the bytes so far are put
abbrev pub invariant-loop-byte : goal.invariant-loop-byte
invariant-loop-byte l =
    Puts {T = Unit {0}} {E = AllocError} (Ok tt) l.initial.out l.out (inside (take l.byte-index l.bytes))
