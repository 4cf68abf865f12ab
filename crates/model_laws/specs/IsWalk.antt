-- What the walk of a document's inserts is, without saying how it is made: depth first, siblings in falling order of id.
use Rattle.std.specs.Prelude.{◌≡◌, ◌⊎◌, ◌↔◌, ◌≤◌, true, List, [], ◌∷◌, ◌++◌, Option, Some, None}
use Rattle.op_ids.specs.Id.{Id, is_below}
use Rattle.op_model.specs.declared.character.Character.{Character}
use Rattle.op_model.specs.Walk.{times}
use Rattle.op_model.specs.Placing.{has_id}

-- is one of these characters
abbrev pub HasCharacter : List Character → Character → Type 0
HasCharacter [] c = ⊥
HasCharacter (d ∷ ds) c = (d ≡ c) ⊎ HasCharacter ds c

-- there is an origin, and it is one of these
abbrev pub IsOneOf : List Character → Option Id → Type 0
IsOneOf cs None = ⊥
IsOneOf cs (Some origin) = has_id cs origin ≡ true

-- the origin of each of these is one of the first characters, or one in front of it
abbrev pub AreDescendants : List Character → List Character → Type 0
AreDescendants first [] = Unit {0}
AreDescendants first (c ∷ cs) = IsOneOf first c.origin × AreDescendants (first ++ c ∷ []) cs

-- a list is the walk of these inserts
pub record IsWalk (inserts walked : List Character) : Type 0 where
  -- it has the inserts, and nothing else
  pub members : (c : Character) → HasCharacter walked c ↔ HasCharacter inserts c
  -- it has each id once
  pub once : (id : Id) → times id walked ≤ 1
  -- each character stands behind its origin
  pub parents : (front rest : List Character) (c : Character) (origin : Id)
      → walked ≡ front ++ c ∷ rest → c.origin ≡ Some origin → has_id front origin ≡ true
  -- what stands between a character and its child also lies below that character
  pub together : (front between rest : List Character) (c d : Character)
      → walked ≡ front ++ c ∷ (between ++ d ∷ rest) → d.origin ≡ Some c.id → AreDescendants (c ∷ []) between
  -- of two siblings the first has the greater id
  pub falling : (front between rest : List Character) (c d : Character)
      → walked ≡ front ++ c ∷ (between ++ d ∷ rest) → c.origin ≡ d.origin → is_below d.id c.id ≡ true
