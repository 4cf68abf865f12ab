-- What was taken from the stream is the head so far.
use Rattle.std.specs.Io.KnownBytes.{Consumes}
use Rattle.web_guests.proofs.head.read_head.Given as goal

abbrev pub invariant-loop : goal.invariant-loop
invariant-loop g l = Consumes (g.S.Read.remaining l.initial.stream) (g.S.Read.remaining l.stream) l.head.items
