-- The text of a document, as a list of operations makes it. The order of the operations in the list doesn't matter
-- where their ids are distinct.
use Rattle.std.specs.Prelude.{ℕ, ◌==◌, Bool, false, not, ◌&&◌, List, map, filter, count_by}
use Rattle.std.specs.List.{list_any}
use Rattle.op_ids.specs.Id.{Id, is_same}
use Rattle.op_model.specs.declared.op.Op.{Op}
use Rattle.op_model.specs.declared.op.Body.{Body}
use Rattle.op_model.specs.declared.op.Body.TheVariants.{Insert, Remove, AddMark, RemoveMark}
use Rattle.op_model.specs.declared.character.Character.{Character}
use Rattle.op_model.specs.Walk.{walk}

-- removes the character of this id
abbrev pub is_removal_of : Id → Body → Bool
is_removal_of id (Remove target) = is_same target id
is_removal_of id (Insert origin value) = false
is_removal_of id (AddMark mark start end) = false
is_removal_of id (RemoveMark key start end) = false

-- some operation of the document removes the character: it is a tombstone. An operation of another document names none here.
abbrev pub is_removed : List Op → ℕ → Character → Bool
is_removed ops doc c = list_any (λ op. op.doc == doc && is_removal_of c.id op.body) ops

-- the characters that a reader sees, in the order of the text
abbrev pub visible : List Op → ℕ → List Character
visible ops doc = filter (λ c. not (is_removed ops doc c)) (walk ops doc)

-- the text that a reader sees
abbrev pub text : List Op → ℕ → List ℕ
text ops doc = map (λ c. c.value) (visible ops doc)

-- how many operations the document has
abbrev pub rev : List Op → ℕ → ℕ
rev ops doc = count_by (λ op. op.doc == doc) ops
