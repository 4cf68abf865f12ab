-- What is gone of the bytes that waited was written.
use Rattle.std.proofs.Common.{◌≡◌}
use Rattle.web_lines.specs.Outgoing.{GoesOut}
use Rattle.web_lines.proofs.outlet.Outlet.settle.Given as goal

abbrev pub invariant-loop : goal.invariant-loop
invariant-loop g l = record {
  out : GoesOut (g.W.Write.contents l.initial.stream) (g.W.Write.contents l.stream) l.initial.self.waiting l.self.waiting;
  cut : l.self.is_cut ≡ l.initial.self.is_cut;
}
