-- Used by private functions and proofs alone.
--
-- Edges in chunks, one behind the other: all edges of a character stand in one chunk.
use Rattle.std.specs.Prelude.{◌≡◌, ◌<◌, ◌≤◌, ◌+◌, ◌++◌, if◌then◌else◌, ℕ, Bool, true, false, List, [], ◌∷◌, length, take, drop}
use Rattle.std.specs.List.{remove, All}
use Rattle.std.proofs.Common.{get_or}
use Rattle.op_ids.specs.Id.{Id, is_below}
use Rattle.mark_anchors.specs.declared.edge.Edge.{Edge}
use Rattle.mark_anchors.specs.declared.spot.Spot.{Spot}
use Rattle.mark_anchors.specs.declared.spot.Spot.TheVariants.{In, New}
use Rattle.mark_anchors.specs.Edges.{AreInOrder}

-- the edges of chunks, one behind the other
abbrev pub edges_in : List (List Edge) → List Edge
edges_in [] = []
edges_in (k ∷ ks) = k ++ edges_in ks

-- these edges stand at characters above this one
abbrev pub AreAbove : Id → List Edge → Type 0
AreAbove id es = All (λ e. is_below id e.id ≡ true) es

-- these edges stand at characters below this one
abbrev pub AreBelow : List Edge → Id → Type 0
AreBelow es id = All (λ e. is_below e.id id ≡ true) es

-- the first edges stand at characters below all those of the others
abbrev pub AreApart : List Edge → List Edge → Type 0
AreApart es fs = All (λ e. AreAbove e.id fs) es

-- each chunk has edges, in order, at characters below all those of later chunks
abbrev pub AreChunks : List (List Edge) → Type 0
AreChunks [] = Unit {0}
AreChunks (k ∷ ks) = (0 < length k) × AreInOrder k × AreApart k (edges_in ks) × AreChunks ks

-- the first of these edges stands at a character above this one
abbrev pub starts_above : Id → List Edge → Bool
starts_above id [] = false
starts_above id (e ∷ es) = is_below id e.id

-- these edges with one more, behind those that don't stand at a character above its own
abbrev pub put_in : Edge → List Edge → List Edge
put_in e [] = e ∷ []
put_in e (d ∷ ds) = if is_below e.id d.id then e ∷ d ∷ ds else d ∷ put_in e ds

-- an edge of this character can go there: chunks before hold lower characters alone, chunks behind higher ones
abbrev pub IsSpot : List (List Edge) → Id → Spot → Type 0
IsSpot ks id (In i) = (i < length ks) × AreBelow (edges_in (take i ks)) id × AreAbove id (edges_in (drop (i + 1) ks))
IsSpot ks id (New i) = (i ≤ length ks) × AreBelow (edges_in (take i ks)) id × AreAbove id (edges_in (drop i ks))

-- these edges without the last one that doesn't stand at a character above this one
pub record IsWithoutLast (id : Id) (old new : List Edge) : Type 0 where
  pub place : ℕ
  pub within : place < length old
  pub rest : new ≡ remove old place
  pub up_to : (k : ℕ) (d : Edge) → k ≤ place → is_below id (get_or old k d).id ≡ false
  pub above : (k : ℕ) (d : Edge) → place < k → k < length old → is_below id (get_or old k d).id ≡ true
