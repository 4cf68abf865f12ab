use Rattle.std.proofs.Common.{inl, inr, refl}
use Rattle.shared_desk.proofs.PeersLemmas.{told_of}
use Rattle.shared_desk.proofs.desk.SharedDesk.peers.Goals as goal
use Rattle.shared_desk.proofs.desk.SharedDesk.peers.Goals.{in-Ok, in-Err}

-- the peers of that moment, or no memory
pub returns : goal.returns
returns g c =
    elim c.match-peers.branch [
      | in-Ok w ↦ rw (w.result-is, ← c.self.view_is)
          (c.peers.ensures.same, inr (told_of c.self.inside.pass _ _ _ w.in-Ok.ensures.moment w.from.ensures))
      | in-Err w ↦ rw (w.result-is, ← c.self.view_is) (c.peers.ensures.same, inl refl)
    ]
