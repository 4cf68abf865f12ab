use Rattle.std.proofs.Common.{◌≡◌}
use Rattle.shared_hub.proofs.PeerLemmas.{counted_at}
use Rattle.shared_hub.proofs.shared.Shared.peers.Goals as goal

-- what was counted while the lock was held
pub returns-clause-moment : goal.returns-clause-moment
returns-clause-moment g c =
    let seen = c.deref.ensures in
    let kept = c.deref_mut.ensures.writes_back in
    let same = c.audit.ensures.same.0 in
    let is : c.deref.result.now ≡ c.deref_mut.result.now = cc in
    counted_at _ _ _ c.audit.ensures.kept c.audit.ensures.mine (rw is at c.peers.ensures.counted)
