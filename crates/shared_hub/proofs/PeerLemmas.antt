-- What is known of the peers that are linked.
use Rattle.std.proofs.Common.{◌≡◌, ◌<◌, ℕ, ◌+◌, List, [], ◌∷◌, ◌++◌, append-nil, length, take}
use Rattle.std.proofs.Common.{get_or, All, Option, Some, None, Result, Ok, Err, IfOk, refl, ap, ◌∙◌}
use Rattle.std.proofs.lemmas.List.{take_more}
use Rattle.std.proofs.lemmas.List.Elements.{All-cons, All-nil}
use Rattle.std.specs.Global.{Vec}
use Rattle.std.specs.declared.alloc.AllocError.{AllocError}
use Rattle.op_model.specs.Causality.{clock_of}
use Rattle.op_model.specs.declared.op.Op.{Op}
use Rattle.hub_parts.specs.Locked.{IsLocked, LockedHeld}
use Rattle.list_counts.specs.Counts.{counts_of}
use Rattle.list_counts.specs.declared.peer_counts.PeerCounts.{PeerCounts}
use Rattle.shared_hub.specs.Books.{PassHeld, ends_of}
use Rattle.shared_hub.specs.Peers.{IsCounted, rows_of}
use Rattle.shared_hub.specs.Shared.{MomentOf}
use Rattle.shared_hub.specs.declared.connected.Peer.{Peer}

-- the rows of the links so far, and of one more
rows_of-push : (list : List Op) (links : List (Option Peer)) (link : Option Peer)
    → rows_of list (links ++ link ∷ []) ≡ rows_of list links ++ rows_of list (link ∷ [])
rows_of-push list [] link = refl
rows_of-push list (None ∷ links) link = rows_of-push list links link
rows_of-push list (Some peer ∷ links) link =
    ap (λ rows. counts_of peer.replica peer.its (clock_of list) ∷ rows) (rows_of-push list links link)

-- one more link, whose peer has said what it has
pub row_more : (list : List Op) (links : List (Option Peer)) (i : ℕ) (d : Option Peer) (peer : Peer) → i < length links
    → get_or links i d ≡ Some peer
    → rows_of list (take (i + 1) links) ≡ rows_of list (take i links) ++ counts_of peer.replica peer.its (clock_of list) ∷ []
row_more list links i d peer here is = rw (take_more links i d here, is) (rows_of-push list (take i links) (Some peer))

-- one more link without such a peer
pub none_more : (list : List Op) (links : List (Option Peer)) (i : ℕ) (d : Option Peer) → i < length links
    → get_or links i d ≡ None → rows_of list (take (i + 1) links) ≡ rows_of list (take i links)
none_more list links i d here is =
    rw (take_more links i d here, is) (rows_of-push list (take i links) None ∙ append-nil (rows_of list (take i links)))

-- each row is counted
pub rows_counted : (list : List Op) (links : List (Option Peer)) → All (IsCounted list) (rows_of list links)
rows_counted list [] = All-nil (IsCounted list)
rows_counted list (None ∷ links) = rows_counted list links
rows_counted list (Some peer ∷ links) =
    All-cons (IsCounted list) (counts_of peer.replica peer.its (clock_of list)) (rows_of list links) (peer.its, refl) (rows_counted list links)

-- what is counted under the lock is so at that moment
pub counted_at : (result : Result (Vec PeerCounts) AllocError) (pass : PassHeld) (l : LockedHeld) → IsLocked l
    → pass.entries ≡ ends_of pass.number l.replica.steps
    → IfOk result (λ peers. All (IsCounted l.replica.list) peers.items)
    → IfOk result (λ peers. MomentOf pass (λ m. All (IsCounted m.replica.list) peers.items))
counted_at (Ok peers) pass l sound mine counted = record { locked = l; sound = sound; mine = mine; holds = counted }
counted_at (Err e) pass l sound mine counted = tt
