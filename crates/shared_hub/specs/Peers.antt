-- What is known of the peers that are linked.
use Rattle.std.specs.Prelude.{◌≡◌, ℕ, List, [], ◌∷◌, Option, Some, None}
use Rattle.op_model.specs.Causality.{clock_of}
use Rattle.op_model.specs.declared.op.Op.{Op}
use Rattle.list_counts.specs.Counts.{counts_of}
use Rattle.list_counts.specs.declared.peer_counts.PeerCounts.{PeerCounts}
use Rattle.shared_hub.specs.declared.connected.Peer.{Peer}

-- beside this list, these are the counts of a peer that has what some clock counts
abbrev pub IsCounted : List Op → PeerCounts → Type 0
IsCounted list peer = (its : List (ℕ × ℕ)) × (peer ≡ counts_of peer.replica its (clock_of list))

-- in the order of the links, the counts of each peer that has said what it has, beside this list
abbrev pub rows_of : List Op → List (Option Peer) → List PeerCounts
rows_of list [] = []
rows_of list (None ∷ links) = rows_of list links
rows_of list (Some peer ∷ links) = counts_of peer.replica peer.its (clock_of list) ∷ rows_of list links
