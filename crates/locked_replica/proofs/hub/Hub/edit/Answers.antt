use Rattle.std.proofs.Common.{sym}
use Rattle.hub_parts.specs.Fitting.{side_of}
use Rattle.locked_replica.proofs.SharedCalls.{call_edit, call_edit_refused}
use Rattle.locked_replica.proofs.hub.Hub.edit.Goals.{in-Ok, in-Err}
use Rattle.locked_replica.proofs.hub.Hub.edit.Goals as goal

pub invariant_of-self : goal.invariant_of-self
invariant_of-self g c = c.edit-answer.ensures.fits (side_of c.self.inside.flusher) c.self.invariant

pub returns-clause-call : goal.returns-clause-call
returns-clause-call g c = elim c.match-answer.branch [
  | in-Ok w ↦
      rw (w.result-is, sym c.self.view_is) (call_edit g.D.DiskFacts c.self.inside.locked c.self.inside.flusher (λ told. g.met.D.Disk.lawful c.self.inside.flusher.store.disk told) c.kept.ensures c.kept-2.ensures c.self.invariant
      c.args.session c.args.edit.now w.in-Ok.ticket c.edit-answer.new.self c.kept-3.ensures (c.edit-answer.ensures.fits (side_of c.self.inside.flusher) c.self.invariant) w.in-Ok.ensures.call w.in-Ok.ensures.made)
  | in-Err w ↦
      rw (w.result-is, w.of.ensures.number, sym c.self.view_is) (call_edit_refused g.D.DiskFacts c.self.inside.locked c.self.inside.flusher (λ told. g.met.D.Disk.lawful c.self.inside.flusher.store.disk told) c.kept.ensures c.kept-2.ensures c.self.invariant
      c.args.session c.args.edit.now _ c.edit-answer.new.self w.in-Err.ensures.call w.in-Err.ensures.same)
]

pub returns-clause-kind : goal.returns-clause-kind
returns-clause-kind g c = elim c.match-answer.branch [
  | in-Ok w ↦ rw w.result-is tt
  | in-Err w ↦ rw w.result-is w.of.ensures.kind
]
