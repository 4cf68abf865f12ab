-- The lines that ended so far are answered, and the others are those that end in the rest.
use Rattle.std.proofs.Common.{◌≡◌, ℕ, List, ◌++◌, Option, length}
use Rattle.std.specs.Io.KnownBytes.{Appends}
use Rattle.session_threads.specs.Held.{FitsALine, lines_after, held_after}
use Rattle.session_threads.specs.Exchanges.{Exchanges}
use Rattle.session_threads.proofs.pieces.serve_piece.Given as goal

abbrev pub invariant-loop-end : goal.invariant-loop-end
invariant-loop-end g l =
    (done : List (Option (List ℕ))) × (text : List ℕ)
    × (lines_after l.initial.room.line l.piece ≡ done ++ lines_after l.room.line l.rest)
    × (held_after l.initial.room.line l.piece ≡ held_after l.room.line l.rest)
    × FitsALine l.room.line
    × Exchanges g.D.Desk.serves l.initial.desk done text l.desk
    × Appends (g.W.Write.contents l.initial.writer) (g.W.Write.contents l.writer) text

abbrev pub decreases-loop-end : goal.decreases-loop-end
decreases-loop-end g l = length l.rest
