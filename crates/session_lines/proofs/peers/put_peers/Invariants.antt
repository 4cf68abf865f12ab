use Rattle.std.proofs.Common.{◌≡◌, ◌++◌, List, ℕ, Ok, false, drop}
use Rattle.std.specs.declared.alloc.AllocError.{AllocError}
use Rattle.session_lines.specs.Words.{said_list}
use Rattle.session_lines.specs.Putting.{Puts}
use Rattle.session_lines.specs.Saying.{said_peer}
use Rattle.session_lines.proofs.peers.put_peers.Given as goal

-- some bytes are put, and with what is still to be said they are all
abbrev pub invariant-loop-peer : goal.invariant-loop-peer
invariant-loop-peer l =
    (done : List ℕ)
    × Puts {T = Unit {0}} {E = AllocError} (Ok tt) l.initial.out l.out done
    × (done ++ said_list said_peer l.later (drop l.peer-index l.peers) ≡ said_list said_peer false l.peers)
