use Rattle.std.proofs.Common.{sym}
use Rattle.hub_parts.specs.Fitting.{side_of}
use Rattle.locked_replica.proofs.SharedCalls.{call_have, call_have_refused}
use Rattle.locked_replica.proofs.hub.Hub.have.Goals.{in-Ok, in-Err}
use Rattle.locked_replica.proofs.hub.Hub.have.Goals as goal

pub returns-clause-call : goal.returns-clause-call
returns-clause-call g c = elim c.match-answer.branch [
  | in-Ok w ↦
      rw (w.result-is, sym c.self.view_is) (call_have g.D.DiskFacts c.self.inside.locked c.self.inside.flusher (λ told. g.met.D.Disk.lawful c.self.inside.flusher.store.disk told) c.kept.ensures c.kept-2.ensures c.self.invariant
      w.in-Ok.clock c.have-answer.new.self c.kept-3.ensures (c.have-answer.ensures.fits (side_of c.self.inside.flusher) c.self.invariant) w.in-Ok.ensures.call w.in-Ok.ensures.made)
  | in-Err w ↦
      rw (w.result-is, w.of.ensures.number, sym c.self.view_is) (call_have_refused g.D.DiskFacts c.self.inside.locked c.self.inside.flusher (λ told. g.met.D.Disk.lawful c.self.inside.flusher.store.disk told) c.kept.ensures c.kept-2.ensures c.self.invariant
      _ c.have-answer.new.self w.in-Err.ensures.call w.in-Err.ensures.same)
]

pub returns-clause-kind : goal.returns-clause-kind
returns-clause-kind g c = elim c.match-answer.branch [
  | in-Ok w ↦ rw w.result-is tt
  | in-Err w ↦ rw w.result-is w.of.ensures.kind
]
