-- The characters of a document, as a list of operations makes them. The order of the operations in the list doesn't
-- matter where their ids are distinct.
use Rattle.std.specs.Prelude.{ℕ, ◌==◌, if◌then◌else◌, List, [], ◌∷◌, Option, Some, None}
use Rattle.op_ids.specs.Id.{Id, is_below}
use Rattle.op_model.specs.declared.character.Character.{Character}
use Rattle.op_model.specs.declared.op.Op.{Op}
use Rattle.op_model.specs.declared.op.Body.{Body}
use Rattle.op_model.specs.declared.op.Body.TheVariants.{Insert, Remove, AddMark, RemoveMark}

-- the character that an operation makes, if it is an insert
abbrev pub character_of : Id → Body → Option Character
character_of id (Insert origin value) = Some (record { id = id; origin = origin; value = value })
character_of id (Remove target) = None
character_of id (AddMark mark start end) = None
character_of id (RemoveMark key start end) = None

-- the character that an operation puts into a document
abbrev pub character_in : ℕ → Op → Option Character
character_in doc op = if op.doc == doc then character_of op.id op.body else None

-- a list in rising order of id, with one more
abbrev pub in_order : Character → List Character → List Character
in_order c [] = c ∷ []
in_order c (d ∷ ds) = if is_below c.id d.id then c ∷ d ∷ ds else d ∷ in_order c ds

-- with the character, if there is one
abbrev pub with_character : Option Character → List Character → List Character
with_character None cs = cs
with_character (Some c) cs = in_order c cs

-- the characters that were ever inserted into a document, in rising order of id
abbrev pub characters : List Op → ℕ → List Character
characters [] doc = []
characters (op ∷ ops) doc = with_character (character_in doc op) (characters ops doc)
