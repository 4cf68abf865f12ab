-- What became of one more character of a document.
use Rattle.std.proofs.Common.{◌≡◌, ℕ, zero, suc, ◌+◌, ◌-◌, not, ◌&&◌, ◌||◌, List, [], ◌∷◌, ◌++◌, length, take, drop, map}
use Rattle.std.proofs.Common.{Some, refl, sym, ◌∙◌, ap, arith, add-one, length-append}
use Rattle.std.specs.Prelude.{slice_get}
use Rattle.std.proofs.lemmas.List.{length-map, take_all}
use Rattle.op_model.specs.declared.op.Op.{Op}
use Rattle.op_model.specs.declared.character.Character.{Character}
use Rattle.op_model.specs.declared.marking.Marking.{Marking}
use Rattle.op_model.specs.Changes.{became, changes, step_of, steps}
use Rattle.op_model.specs.Marks.{markings}
use Rattle.op_model.specs.Spans.{is_same_marks, marks_of}
use Rattle.op_model.specs.Text.{is_removed}
use Rattle.op_model.specs.Walk.{walk}
use Rattle.model_laws.specs.Since.{is_removed_first, was_shown, with_any_last}
use Rattle.model_laws.proofs.Growth.{markings-append}
use Rattle.model_laws.proofs.KnownNow.{step_now}
use Rattle.model_laws.proofs.PushedStep.{steps-push}
use Rattle.model_laws.proofs.WasShown.{removed_first}
use Rattle.char_sequence.specs.declared.cell.Cell.{Cell}
use Rattle.char_sequence.specs.Content.{cell_of, content_of, AreContent}
use Rattle.span_flatten.specs.declared.since.Since.{Since}
use Rattle.span_flatten.specs.Covering.{covering, covers_cell}
use Rattle.span_flatten.specs.Formatting.{marks_in}
use Rattle.span_flatten.specs.Passing.{told}
use Rattle.span_flatten.specs.Since.{has_inserted, older, was_seen, IsSince}
use Rattle.span_flatten.specs.Telling.{turned}
use Rattle.span_flatten.proofs.CoverLemmas.{covers_same}
use Rattle.span_flatten.proofs.FormatLemmas.{marks_same}
use Rattle.span_flatten.proofs.TellingLemmas.{became_turned}

-- the character of a cell
pub record IsCharacter (ops : List Op) (doc : ℕ) (cs : List Character) (k : ℕ) (cell : Cell) : Type 0 where
  pub c : Character
  pub there : slice_get cs k ≡ Some c
  pub same : cell ≡ cell_of ops doc c

pub character_at : (ops : List Op) (doc : ℕ) (cs : List Character) (k : ℕ) (cell : Cell) → slice_get (map (cell_of ops doc) cs) k ≡ Some cell
    → IsCharacter ops doc cs k cell
character_at ops doc [] k cell there = absurd (cc)
character_at ops doc (c ∷ cs) zero cell there = record { c = c; there = refl; same = cc }
character_at ops doc (c ∷ cs) (suc k) cell there =
    let rest = character_at ops doc cs k cell there in record { c = rest.c; there = rest.there; same = rest.same }

-- what stands before the k-th character, and after it
split_at : (cs : List Character) (k : ℕ) (c : Character) → slice_get cs k ≡ Some c → cs ≡ take k cs ++ c ∷ drop (suc k) cs
split_at [] k c there = absurd (cc)
split_at (d ∷ cs) zero c there = let same : d ≡ c = cc in ap (λ x. x ∷ cs) same
split_at (d ∷ cs) (suc k) c there = ap (λ xs. d ∷ xs) (split_at cs k c there)

one_longer : (cs : List Character) (k : ℕ) (c : Character) → slice_get cs k ≡ Some c → take (suc k) cs ≡ take k cs ++ c ∷ []
one_longer [] k c there = absurd (cc)
one_longer (d ∷ cs) zero c there = let same : d ≡ c = cc in ap (λ x. x ∷ []) same
one_longer (d ∷ cs) (suc k) c there = ap (λ xs. d ∷ xs) (one_longer cs k c there)

as_long : (cs : List Character) (k : ℕ) (c : Character) → slice_get cs k ≡ Some c → length (take k cs) ≡ k
as_long [] k c there = absurd (cc)
as_long (d ∷ cs) zero c there = refl
as_long (d ∷ cs) (suc k) c there = ap suc (as_long cs k c there)

-- the first so many of a list and more
front_of : (olds news : List Marking) (n : ℕ) → n ≡ length olds → take n (olds ++ news) ≡ olds
front_of [] news zero e = refl
front_of [] news (suc n) e = absurd (omega arith)
front_of (m ∷ olds) news zero e = absurd (omega arith)
front_of (m ∷ olds) news (suc n) e = ap (λ ms. m ∷ ms) (front_of olds news n (omega arith))

-- the mark operations of before
pub older_is : (since : Since) (before more : List Op) (doc : ℕ) (ms : List Marking) → ms ≡ markings (before ++ more) doc
    → since.marked ≡ length (markings more doc) → older since ms ≡ markings before doc
older_is since before more doc ms all marked =
    let both : ms ≡ markings before doc ++ markings more doc = all ∙ markings-append before more doc in
    rw both (front_of (markings before doc) (markings more doc) (length (markings before doc ++ markings more doc) - since.marked)
    (let long = length-append (markings before doc) (markings more doc) in omega (arith, long, marked)))

module _ (before more : List Op) (doc : ℕ) (since : Since) (noted : IsSince since before more doc) where
  -- what a reader saw
  seen_then : (cell : Cell) (c : Character) → cell ≡ cell_of (before ++ more) doc c → was_shown before more doc c ≡ was_seen since cell
  seen_then cell c same =
      ap (λ b. not b && (not (is_removed (before ++ more) doc c) || is_removed_first before more doc c)) (sym (noted.inserted c.id))
      ∙ ap (λ b. not (has_inserted since c.id) && (not (is_removed (before ++ more) doc c) || b)) (removed_first before more doc c ∙ sym (noted.removed c.id))
      ∙ ap (was_seen since) (sym same)

  -- the steps for one more character
  pub told_next : (cells : List Cell) (ms : List Marking) (k : ℕ) (cell : Cell) → slice_get cells k ≡ Some cell → AreContent cells (before ++ more) doc
      → ms ≡ markings (before ++ more) doc
      → with_any_last (told before more doc k) (turned (was_seen since cell) (not cell.is_removed)
      (is_same_marks (marks_in (covering cells (older since ms) k)) (marks_in (covering cells ms k))) (marks_in (covering cells ms k)) cell.value)
      ≡ told before more doc (k + 1)
  told_next cells ms k cell there are all =
      let now : List Op = before ++ more in
      let w : List Character = walk now doc in
      let at = character_at now doc w k cell (ap (λ cs. slice_get cs k) (sym are.content) ∙ there) in
      let long = as_long w k at.c at.there in
      let marks : (ns : List Marking) → marks_in (covering cells ns k) ≡ marks_of w ns k =
      λ ns. ap (λ cs. marks_in (covering cs ns k)) are.content ∙ marks_same w ns k (λ m. covers_cell (content_of now doc) k m) (λ m. covers_same now doc w k m) in
      let old : marks_in (covering cells (older since ms) k) ≡ marks_of w (markings before doc) k =
      marks (older since ms) ∙ ap (λ ns. marks_of w ns k) (older_is since before more doc ms all noted.marked) in
      let new : marks_in (covering cells ms k) ≡ marks_of w (markings now doc) k = marks ms ∙ ap (λ ns. marks_of w ns k) all in
      let step = step_now before more doc (take k w) (drop (suc k) w) at.c are.orderly (split_at w k at.c at.there) in
      let turn : turned (was_seen since cell) (not cell.is_removed)
      (is_same_marks (marks_in (covering cells (older since ms) k)) (marks_in (covering cells ms k))) (marks_in (covering cells ms k)) cell.value
      ≡ step_of before now doc at.c =
      ap (λ o. turned (was_seen since cell) (not cell.is_removed) (is_same_marks o (marks_in (covering cells ms k))) (marks_in (covering cells ms k)) cell.value) old
      ∙ ap (λ n. turned (was_seen since cell) (not cell.is_removed) (is_same_marks (marks_of w (markings before doc) k) n) n cell.value) new
      ∙ ap (λ b. turned b (not cell.is_removed) (is_same_marks (marks_of w (markings before doc) k) (marks_of w (markings now doc) k)) (marks_of w (markings now doc) k)
      cell.value) (sym (seen_then cell at.c at.same))
      ∙ ap (λ (x : Cell). turned (was_shown before more doc at.c) (not x.is_removed) (is_same_marks (marks_of w (markings before doc) k) (marks_of w (markings now doc) k))
      (marks_of w (markings now doc) k) x.value) at.same
      ∙ sym (became_turned (was_shown before more doc at.c) (not (is_removed now doc at.c)) (marks_of w (markings before doc) k) (marks_of w (markings now doc) k) at.c.value)
      ∙ ap (λ i. became (was_shown before more doc at.c) (not (is_removed now doc at.c)) (marks_of w (markings before doc) i) (marks_of w (markings now doc) i) at.c.value)
      (sym long)
      ∙ sym step in
      ap (λ s. with_any_last (told before more doc k) s) turn
      ∙ sym (steps-push (step_of before now doc) (take k w) at.c)
      ∙ ap (λ cs. steps (step_of before now doc) cs) (sym (rw add-one (one_longer w k at.c at.there)))

-- the steps for all characters
pub told_all : (before more : List Op) (doc : ℕ) (cells : List Cell) (n : ℕ) → AreContent cells (before ++ more) doc → n ≡ length cells
    → told before more doc n ≡ changes before (before ++ more) doc
told_all before more doc cells n are long =
    let now : List Op = before ++ more in
    let same = ap length are.content in
    let all : length (map (cell_of now doc) (walk now doc)) ≡ length (walk now doc) = length-map (walk now doc) (cell_of now doc) in
    ap (λ cs. steps (step_of before now doc) cs) (take_all n (walk now doc) (omega (arith, same, all, long)))
