-- The order of the characters of a document: its inserts are a tree, where the parent of an insert is its origin.
use Rattle.std.specs.Prelude.{◌≡◌, ℕ, ◌+◌, Bool, true, false, if◌then◌else◌, List, [], ◌∷◌, ◌++◌, Option, Some, None}
use Rattle.op_ids.specs.Id.{Id, is_below, is_same}
use Rattle.op_model.specs.declared.op.Op.{Op}
use Rattle.op_model.specs.declared.character.Character.{Character}
use Rattle.op_model.specs.Characters.{characters}

-- both are the beginning of the text, or one character
abbrev pub is_parent : Option Id → Option Id → Bool
is_parent None None = true
is_parent (Some a) (Some b) = is_same a b
is_parent (Some a) None = false
is_parent None (Some b) = false

-- What lies below a parent, depth first, a parent before its children, siblings in falling order of id. The inserts are
-- in rising order, and a child has a greater id than its parent: so the first insert is the least child, which comes
-- last, and all that lies below it is among the rest. Where ids don't rise, an id stands twice or an origin is missing,
-- this drops or repeats inserts: none of these comes in a causally closed list.
abbrev pub below : Option Id → List Character → List Character
below parent [] = []
below parent (c ∷ cs) = below parent cs ++ elim (is_parent parent c.origin) [ true ↦ c ∷ below (Some c.id) cs | false ↦ [] ]

-- all characters of a document in the order of its text, tombstones too
abbrev pub walk : List Op → ℕ → List Character
walk ops doc = below None (characters ops doc)

-- the children of a parent, in falling order of id
abbrev pub children : Option Id → List Character → List Character
children parent [] = []
children parent (c ∷ cs) = children parent cs ++ elim (is_parent parent c.origin) [ true ↦ c ∷ [] | false ↦ [] ]

-- each of these characters, and right behind it what lies below it
abbrev pub families : List Character → List Character → List Character
families inserts [] = []
families inserts (c ∷ cs) = (c ∷ below (Some c.id) inserts) ++ families inserts cs

-- how often a character of this id stands in a list
abbrev pub times : Id → List Character → ℕ
times id [] = 0
times id (c ∷ cs) = (if is_same c.id id then 1 else 0) + times id cs

-- the ids fall, from below this one
abbrev pub IsFallingBelow : Id → List Character → Type 0
IsFallingBelow id [] = Unit {0}
IsFallingBelow id (c ∷ cs) = (is_below c.id id ≡ true) × IsFallingBelow c.id cs

-- the ids fall
abbrev pub IsFalling : List Character → Type 0
IsFalling [] = Unit {0}
IsFalling (c ∷ cs) = IsFallingBelow c.id cs
