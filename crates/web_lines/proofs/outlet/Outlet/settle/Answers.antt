-- One write more: what it wrote comes after what was written before.
use Rattle.std.proofs.Common.{sym, ◌∙◌}
use Rattle.web_lines.proofs.GoingLemmas.{goes-on}
use Rattle.web_lines.proofs.outlet.Outlet.settle.Goals as goal

pub returns-in_err-write_waiting-clause-out : goal.returns-in_err-write_waiting-clause-out
returns-in_err-write_waiting-clause-out g c =
    goes-on _ _ _ _ _ _ c.loop.invariant.out c.write_waiting.ensures.out

pub loop-preserved : goal.loop-preserved
loop-preserved g c = record {
  out = goes-on _ _ _ _ _ _ c.loop.invariant.out c.write_waiting.ensures.out;
  cut = c.write_waiting.ensures.cut ∙ c.loop.invariant.cut;
}
