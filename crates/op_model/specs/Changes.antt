-- What changed in the text of a document between a beginning of its operations and all of them, as steps over the text that a
-- reader has.
use Rattle.std.specs.Prelude.{ℕ, ◌+◌, Bool, true, false, not, ◌&&◌, if◌then◌else◌, List, [], ◌∷◌, ◌++◌, take, drop, map, Option, Some, None}
use Rattle.op_ids.specs.Id.{Id}
use Rattle.op_model.specs.declared.op.Op.{Op}
use Rattle.op_model.specs.declared.character.Character.{Character}
use Rattle.op_model.specs.declared.mark.Marks.{Marks}
use Rattle.op_model.specs.declared.change_step.ChangeStep.{ChangeStep}
use Rattle.op_model.specs.declared.change_step.ChangeStep.TheVariants.{Keep, Drop, Put, Mark}
use Rattle.op_model.specs.Walk.{walk}
use Rattle.op_model.specs.Text.{is_removed, visible}
use Rattle.op_model.specs.Marks.{markings}
use Rattle.op_model.specs.Places.{index_of}
use Rattle.op_model.specs.Spans.{marks_of, is_same_marks}
use Rattle.op_model.specs.Placing.{has_id}

-- a reader sees the character: it is in the document, and no tombstone
abbrev pub is_shown : List Op → ℕ → Character → Bool
is_shown ops doc c = has_id (walk ops doc) c.id && not (is_removed ops doc c)

-- the marks of the character of this id
abbrev pub marks_at : List Op → ℕ → Id → Marks
marks_at ops doc id = marks_of (walk ops doc) (markings ops doc) (index_of id (walk ops doc))

-- what became of a character: it was shown or not, it is shown or not, its marks then, its marks now, and its value. One that
-- came and went makes no step.
abbrev pub became : Bool → Bool → Marks → Marks → ℕ → Option ChangeStep
became true true old new value = if is_same_marks old new then Some (Keep 1) else Some (Mark 1 new)
became true false old new value = Some (Drop 1)
became false true old new value = Some (Put (record { text = value ∷ []; marks = new }))
became false false old new value = None

-- what became of a character since the operations before
abbrev pub step_of : List Op → List Op → ℕ → Character → Option ChangeStep
step_of before after doc c =
    became (is_shown before doc c) (is_shown after doc c) (marks_at before doc c.id) (marks_at after doc c.id) c.value

-- two steps in one: of one kind, and with equal marks where they have marks
abbrev pub in_one : ChangeStep → ChangeStep → Option ChangeStep
in_one (Keep a) (Keep b) = Some (Keep (a + b))
in_one (Drop a) (Drop b) = Some (Drop (a + b))
in_one (Put s) (Put t) =
    if is_same_marks s.marks t.marks then Some (Put (record { text = s.text ++ t.text; marks = t.marks })) else None
in_one (Mark a m) (Mark b n) = if is_same_marks m n then Some (Mark (a + b) n) else None
in_one _ _ = None

-- steps with one before them: joined with the first one, if it can be
abbrev pub with_step : ChangeStep → List ChangeStep → List ChangeStep
with_step s [] = s ∷ []
with_step s (t ∷ ss) = elim (in_one s t) [ Some u ↦ u ∷ ss | None ↦ s ∷ t ∷ ss ]

-- the same, if there is one
abbrev pub with_any_step : Option ChangeStep → List ChangeStep → List ChangeStep
with_any_step None ss = ss
with_any_step (Some s) ss = with_step s ss

-- the steps of these characters, joined
abbrev pub steps : (Character → Option ChangeStep) → List Character → List ChangeStep
steps step [] = []
steps step (c ∷ cs) = with_any_step (step c) (steps step cs)

-- what changed since the operations before, over the whole text and in its order
abbrev pub changes : List Op → List Op → ℕ → List ChangeStep
changes before after doc = steps (step_of before after doc) (walk after doc)

-- a character as a reader sees it: its id where it was seen before, its value, and its marks
pub record Seen : Type 0 where
  pub id : Option Id
  pub value : ℕ
  pub marks : Marks

-- a character that comes with these marks
abbrev pub new_one : Marks → ℕ → Seen
new_one marks value = record { id = None; value = value; marks = marks }

-- the same character, with other marks
abbrev pub marked : Marks → Seen → Seen
marked marks x = record { id = x.id; value = x.value; marks = marks }

-- what a reader sees after these steps: those that no step speaks of are gone
abbrev pub applied : List ChangeStep → List Seen → List Seen
applied [] xs = []
applied (Keep n ∷ ss) xs = take n xs ++ applied ss (drop n xs)
applied (Drop n ∷ ss) xs = applied ss (drop n xs)
applied (Put s ∷ ss) xs = map (new_one s.marks) s.text ++ applied ss xs
applied (Mark n m ∷ ss) xs = map (marked m) (take n xs) ++ applied ss (drop n xs)

-- what a reader sees of a document, each character with its id
abbrev pub shown : List Op → ℕ → List Seen
shown ops doc = map (λ c. record { id = Some c.id; value = c.value; marks = marks_at ops doc c.id }) (visible ops doc)

-- what a reader sees now, each character with its id where it was seen before
abbrev pub shown_since : List Op → List Op → ℕ → List Seen
shown_since before after doc = map
    (λ c. record { id = if is_shown before doc c then Some c.id else None; value = c.value; marks = marks_at after doc c.id })
    (visible after doc)
