-- What the steps over a text are like, and what one who builds them can test.
use Rattle.std.specs.Prelude.{◌≡◌, ℕ, zero, suc, ◌+◌, ◌<◌, ◌==◌, Bool, true, false, not, ◌||◌, ◌&&◌, List, [], ◌∷◌, ◌++◌, length, map, filter}
use Rattle.std.specs.Prelude.{All, Option, Some, None}
use Rattle.op_ids.specs.Id.{Id}
use Rattle.op_model.specs.declared.op.Op.{Op}
use Rattle.op_model.specs.declared.character.Character.{Character}
use Rattle.op_model.specs.declared.span.Span.{Span}
use Rattle.op_model.specs.declared.change_step.ChangeStep.{ChangeStep}
use Rattle.op_model.specs.declared.change_step.ChangeStep.TheVariants.{Keep, Drop, Put, Mark}
use Rattle.op_model.specs.Characters.{characters}
use Rattle.op_model.specs.Text.{is_removed, is_removal_of}
use Rattle.op_model.specs.Walk.{walk}
use Rattle.op_model.specs.Marks.{markings}
use Rattle.op_model.specs.Places.{index_of, covers}
use Rattle.op_model.specs.Spans.{with_front}
use Rattle.op_model.specs.Placing.{has_id}
use Rattle.op_model.specs.Changes.{Seen, new_one, in_one}

-- how many characters a step speaks of
abbrev pub size_of_step : ChangeStep → ℕ
size_of_step (Keep n) = n
size_of_step (Drop n) = n
size_of_step (Put s) = length s.text
size_of_step (Mark n marks) = n

-- how many characters of the text that the reader has the steps take
abbrev pub taken : List ChangeStep → ℕ
taken [] = 0
taken (Keep n ∷ ss) = n + taken ss
taken (Drop n ∷ ss) = n + taken ss
taken (Put s ∷ ss) = taken ss
taken (Mark n marks ∷ ss) = n + taken ss

-- how many characters the text has after the steps
abbrev pub given : List ChangeStep → ℕ
given [] = 0
given (Keep n ∷ ss) = n + given ss
given (Drop n ∷ ss) = given ss
given (Put s ∷ ss) = length s.text + given ss
given (Mark n marks ∷ ss) = n + given ss

-- no two neighbours could be one step
abbrev pub AreJoined : List ChangeStep → Type 0
AreJoined [] = Unit {0}
AreJoined (s ∷ []) = Unit {0}
AreJoined (s ∷ t ∷ ss) = (in_one s t ≡ None) × AreJoined (t ∷ ss)

-- each of these speaks of some character
abbrev pub AreSome : List ChangeStep → Type 0
AreSome [] = Unit {0}
AreSome (s ∷ ss) = (0 < size_of_step s) × AreSome ss

-- steps with one after them: joined with the last one, if it can be
abbrev pub with_last : List ChangeStep → ChangeStep → List ChangeStep
with_last [] s = s ∷ []
with_last (t ∷ []) s = elim (in_one t s) [ Some u ↦ u ∷ [] | None ↦ t ∷ s ∷ [] ]
with_last (t ∷ v ∷ ss) s = t ∷ with_last (v ∷ ss) s

-- the same, if there is one
abbrev pub with_any_last : List ChangeStep → Option ChangeStep → List ChangeStep
with_any_last ss None = ss
with_any_last ss (Some s) = with_last ss s

-- steps with others after them: the last one joined with the first one of those, if it can be
abbrev pub followed_by : List ChangeStep → List ChangeStep → List ChangeStep
followed_by ss [] = ss
followed_by ss (t ∷ ts) = with_last ss t ++ ts

-- one step that keeps so many characters, and none for no characters
abbrev pub all_kept : ℕ → List ChangeStep
all_kept zero = []
all_kept (suc n) = Keep (suc n) ∷ []

-- the greatest runs with equal marks of these characters
abbrev pub as_spans : List Seen → List Span
as_spans [] = []
as_spans (x ∷ xs) = with_front x.value x.marks (as_spans xs)

-- what a reader keeps who keeps no ids: values and marks
abbrev pub without_ids : List Seen → List Seen
without_ids xs = map (λ x. new_one x.marks x.value) xs

-- the operations of a document
abbrev pub of_doc : ℕ → List Op → List Op
of_doc doc ops = filter (λ op. op.doc == doc) ops

-- an operation of the document removes this character
abbrev pub removes : ℕ → Character → Op → Bool
removes doc c op = op.doc == doc && is_removal_of c.id op.body

-- one of these operations, which come after those before, is the first to remove the character
abbrev pub is_removed_first : List Op → List Op → ℕ → Character → Bool
is_removed_first before [] doc c = false
is_removed_first before (op ∷ more) doc c =
    (removes doc c op && not (is_removed before doc c)) || is_removed_first (before ++ op ∷ []) more doc c

-- what was shown, by what is known now: the character wasn't inserted since, and isn't removed, or was first removed since
abbrev pub was_shown : List Op → List Op → ℕ → Character → Bool
was_shown before more doc c =
    not (has_id (characters more doc) c.id) && (not (is_removed (before ++ more) doc c) || is_removed_first before more doc c)

-- no mark operation of these, which come after those before, covers the character of this id
abbrev pub IsUncovered : List Op → List Op → ℕ → Id → Type 0
IsUncovered before more doc id =
    All (λ m. covers (walk (before ++ more) doc) (index_of id (walk (before ++ more) doc)) m ≡ false) (markings more doc)

-- the operations that come after those before leave the character as it was: it was there, and none of them removes or marks it
pub record IsUntouched (before more : List Op) (doc : ℕ) (c : Character) : Type 0 where
  pub there : has_id (walk before doc) c.id ≡ true
  pub stays : is_removed more doc c ≡ false
  pub uncovered : IsUncovered before more doc c.id

-- none of these operations, which come one by one after those before, removes a character that was removed before
abbrev pub RemoveNothingAgain : List Op → List Op → Type 0
RemoveNothingAgain before [] = Unit {0}
RemoveNothingAgain before (op ∷ more) =
    ((c : Character) → is_removal_of c.id op.body ≡ true → is_removed before op.doc c ≡ false) × RemoveNothingAgain (before ++ op ∷ []) more
