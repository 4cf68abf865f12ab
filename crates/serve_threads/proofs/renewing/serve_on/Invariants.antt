use Rattle.serve_threads.specs.Turns.{Turns}
use Rattle.serve_threads.proofs.renewing.serve_on.Given as goal

-- the disk was handed back by the last of some turns
abbrev pub invariant-loop : goal.invariant-loop
invariant-loop g l = Turns g.D.DiskFacts l.fn.parts.flusher l.served.disk
