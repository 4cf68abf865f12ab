-- What is known of a peer, in numbers of operations.
use Rattle.std.specs.Prelude.{ℕ, ◌+◌, ◌-◌, List, [], ◌∷◌}
use Rattle.op_ids.specs.Clock.{count_of, total_of}
use Rattle.list_counts.specs.declared.peer_counts.PeerCounts.{PeerCounts}

-- how many of the operations that are here, by the entries of their clock, the peer's clock doesn't count
abbrev pub lacking : List (ℕ × ℕ) → List (ℕ × ℕ) → ℕ
lacking its [] = 0
lacking its (e ∷ here) = (e.1 - count_of its e.0) + lacking its here

-- a peer has what its clock counts, and lacks of what is here the rest
abbrev pub counts_of : ℕ → List (ℕ × ℕ) → List (ℕ × ℕ) → PeerCounts
counts_of replica its here = record { replica = replica; has = total_of its; lacks = lacking its here }
