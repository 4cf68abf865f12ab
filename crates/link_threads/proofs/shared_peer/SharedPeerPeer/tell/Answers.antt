use Rattle.link_threads.proofs.TellLemmas.{few_told}
use Rattle.link_threads.proofs.shared_peer.SharedPeerPeer.tell.Goals as goal
use Rattle.link_threads.proofs.shared_peer.SharedPeerPeer.tell.Goals.{in-Ok, in-Err}

-- at most 64
pub returns-clause-most : goal.returns-clause-most
returns-clause-most g c = elim c.match-tell.branch [
  | in-Ok w ↦ rw w.result-is (few_told _ _ c.args.clock.now w.in-Ok.ops.items w.in-Ok.ensures.entered)
  | in-Err w ↦ rw w.result-is tt
]
