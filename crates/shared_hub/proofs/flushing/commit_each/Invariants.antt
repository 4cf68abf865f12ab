use Rattle.shared_hub.specs.Going.{Goes}
use Rattle.shared_hub.proofs.flushing.commit_each.Given as goal

-- the flusher has gone on
abbrev pub invariant-loop : goal.invariant-loop
invariant-loop g l = Goes g.D.DiskFacts l.initial.committer.flusher l.committer.flusher
