-- All that waited went out, so the reply stands alone in what waits then.
use Rattle.std.proofs.Common.{◌≡◌, [], rules, arith}
use Rattle.std.proofs.lemmas.Grind.{common_steps}
use Rattle.web_lines.specs.Outgoing.{GoesOut}
use Rattle.web_lines.proofs.GoingLemmas.{goes-after}
use Rattle.web_lines.proofs.outlet.Outlet.reply.Goals as goal

pub returns-clause-ok : goal.returns-clause-ok
returns-clause-ok g c =
    let none : c.settle.new.self.waiting ≡ [] = search rules in
    let alone : c.extend_from_slice.new.self.items ≡ c.args.frames.now = grind (arith, common_steps, none, c.in_ok-extend_from_slice.ensures.items) in
    goes-after _ _ _ _ _ _ (rw none at c.settle.ensures.out) (rw alone at c.settle-2.ensures.out)
