-- The lines that ended in what was read are answered.
use Rattle.std.proofs.Common.{◌≡◌, ◌<◌, ℕ, List, [], Some, length}
use Rattle.std.specs.Io.KnownBytes.{Appends, Consumes}
use Rattle.session_threads.specs.Held.{FitsALine, lines_after, held_after}
use Rattle.session_threads.specs.Exchanges.{Exchanges}
use Rattle.session_threads.proofs.session.serve_input.Given as goal

abbrev pub invariant-loop : goal.invariant-loop
invariant-loop g l =
    (0 < length l.piece) × (read : List ℕ) × (text : List ℕ)
    × Consumes (g.R.Read.remaining l.initial.reader) (g.R.Read.remaining l.reader) read
    × (l.room.line ≡ held_after (Some []) read)
    × FitsALine l.room.line
    × Exchanges g.D.Desk.serves l.initial.desk (lines_after (Some []) read) text l.desk
    × Appends (g.W.Write.contents l.initial.writer) (g.W.Write.contents l.writer) text
