-- What is told of the peers that are linked.
use Rattle.std.proofs.Common.{◌≡◌, ℕ, List, All, ap}
use Rattle.list_counts.specs.declared.peer_counts.PeerCounts.{PeerCounts}
use Rattle.session_lines.specs.declared.answer.Answer.{Answer}
use Rattle.session_lines.specs.declared.answer.Answer.TheVariants.{Peers}
use Rattle.shared_hub.specs.Books.{PassHeld}
use Rattle.shared_hub.specs.Peers.{IsCounted}
use Rattle.shared_hub.specs.Shared.{MomentOf}

-- what was counted at a moment is told of that moment
pub told_of : (pass : PassHeld) (peers told : List PeerCounts) (sessions : ℕ) → MomentOf pass (λ l. All (IsCounted l.replica.list) peers) → told ≡ peers
    → MomentOf pass (λ l. (some : List PeerCounts) × (n : ℕ) × (Peers told sessions ≡ Peers some n) × All (IsCounted l.replica.list) some)
told_of pass peers told sessions at same =
    record {
      locked = at.locked;
      sound = at.sound;
      mine = at.mine;
      holds = (peers, sessions, ap (λ shown. Peers shown sessions) same, at.holds);
    }
