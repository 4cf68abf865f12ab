-- A reader who keeps no ids can follow.
use Rattle.std.proofs.Common.{◌≡◌, ℕ, List, [], ◌∷◌, ◌++◌, take, drop, map, ap, refl, ◌∙◌, sym}
use Rattle.std.proofs.lemmas.List.{map-append, take-map, drop-map}
use Rattle.op_model.specs.declared.op.Op.{Op}
use Rattle.op_model.specs.declared.character.Character.{Character}
use Rattle.op_model.specs.declared.mark.Marks.{Marks}
use Rattle.op_model.specs.declared.change_step.ChangeStep.{ChangeStep}
use Rattle.op_model.specs.declared.change_step.ChangeStep.TheVariants.{Keep, Drop, Put, Mark}
use Rattle.op_model.specs.Text.{visible}
use Rattle.op_model.specs.Placing.{IsOrderly}
use Rattle.op_model.specs.Changes.{Seen, new_one, marked, is_shown, marks_at, changes, applied, shown}
use Rattle.model_laws.specs.Since.{without_ids}
use Rattle.model_laws.proofs.Stepped.{was_seen, is_seen}
use Rattle.model_laws.proofs.Told.{changes_applied}

without-append : (xs ys : List Seen) → without_ids (xs ++ ys) ≡ without_ids xs ++ without_ids ys
without-append xs ys = map-append (λ x. new_one x.marks x.value) xs ys

without-take : (n : ℕ) (xs : List Seen) → without_ids (take n xs) ≡ take n (without_ids xs)
without-take n xs = sym (take-map (λ x. new_one x.marks x.value) n xs)

without-drop : (n : ℕ) (xs : List Seen) → without_ids (drop n xs) ≡ drop n (without_ids xs)
without-drop n xs = sym (drop-map (λ x. new_one x.marks x.value) n xs)

without_new : (m : Marks) (text : List ℕ) → without_ids (map (new_one m) text) ≡ map (new_one m) text
without_new m [] = refl
without_new m (v ∷ vs) = ap (λ xs. new_one m v ∷ xs) (without_new m vs)

without_marked : (m : Marks) (xs : List Seen) → without_ids (map (marked m) xs) ≡ map (marked m) (without_ids xs)
without_marked m [] = refl
without_marked m (x ∷ xs) = ap (λ ys. new_one m x.value ∷ ys) (without_marked m xs)

-- the steps do the same to characters without ids
applied_without : (ss : List ChangeStep) (xs : List Seen) → without_ids (applied ss xs) ≡ applied ss (without_ids xs)
applied_without [] xs = refl
applied_without (Keep n ∷ ss) xs =
    without-append (take n xs) (applied ss (drop n xs))
    ∙ ap (λ ys. ys ++ without_ids (applied ss (drop n xs))) (without-take n xs)
    ∙ ap (λ ys. take n (without_ids xs) ++ ys) (applied_without ss (drop n xs) ∙ ap (λ ys. applied ss ys) (without-drop n xs))
applied_without (Drop n ∷ ss) xs = applied_without ss (drop n xs) ∙ ap (λ ys. applied ss ys) (without-drop n xs)
applied_without (Put s ∷ ss) xs =
    without-append (map (new_one s.marks) s.text) (applied ss xs)
    ∙ ap (λ ys. ys ++ without_ids (applied ss xs)) (without_new s.marks s.text)
    ∙ ap (λ ys. map (new_one s.marks) s.text ++ ys) (applied_without ss xs)
applied_without (Mark n m ∷ ss) xs =
    without-append (map (marked m) (take n xs)) (applied ss (drop n xs))
    ∙ ap (λ ys. ys ++ without_ids (applied ss (drop n xs))) (without_marked m (take n xs) ∙ ap (λ ys. map (marked m) ys) (without-take n xs))
    ∙ ap (λ ys. map (marked m) (take n (without_ids xs)) ++ ys) (applied_without ss (drop n xs) ∙ ap (λ ys. applied ss ys) (without-drop n xs))

shown_without : (before now : List Op) (doc : ℕ) (cs : List Character)
    → without_ids (map (λ c. is_seen (is_shown before doc c) (marks_at now doc c.id) c) cs) ≡ without_ids (map (λ c. was_seen (marks_at now doc c.id) c) cs)
shown_without before now doc [] = refl
shown_without before now doc (c ∷ cs) = ap (λ xs. new_one (marks_at now doc c.id) c.value ∷ xs) (shown_without before now doc cs)

-- one who has the text and the marks of before has those of now after the steps
pub changes_followed : (before more : List Op) (doc : ℕ) → IsOrderly (before ++ more) doc
    → applied (changes before (before ++ more) doc) (without_ids (shown before doc)) ≡ without_ids (shown (before ++ more) doc)
changes_followed before more doc h =
    sym (applied_without (changes before (before ++ more) doc) (shown before doc))
    ∙ ap without_ids (changes_applied before more doc h)
    ∙ shown_without before (before ++ more) doc (visible (before ++ more) doc)
