use Rattle.web_guests.proofs.AdmittingLemmas.{came_from}
use Rattle.web_guests.proofs.admitting.let_in.Goals as goal

pub returns-clause-came : goal.returns-clause-came
returns-clause-came g c =
    came_from g.S.Read.remaining g.S.Write.contents c.args.port c.args.named.now c.args.stream.now c.read_head.new.stream c.welcome.new.stream
    c.read_head.new.head.items c.in_ok-accept.accept c.read_head.new.spans c.in_ok-found.found _
    c.in_ok-found.ensures.parsed c.in_ok-found.ensures.whole (rw c.deref.ensures.value at c.in_ok-accept.ensures)
    c.in_ok-found.ensures.taken c.in_ok-welcome.ensures.ok (rw c.deref-2.ensures.value at c.origin_of.ensures)
