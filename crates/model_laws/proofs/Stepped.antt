-- Steps over characters of which some were shown and some are: what they make of the text, how long it is, and that they are joined.
use Rattle.std.proofs.Common.{◌≡◌, ℕ, ◌+◌, Bool, true, false, cond, inl, inr, List, [], ◌∷◌, ◌++◌, take, drop, map}
use Rattle.std.proofs.Common.{filter, Option, Some, None, ap, refl, ◌∙◌, sym, append_assoc}
use Rattle.std.proofs.lemmas.Bool.{cases_Bool}
use Rattle.std.proofs.lemmas.List.{map-append, drop-drop}
use Rattle.std.proofs.Math.Seq.{take-add}
use Rattle.op_model.specs.declared.character.Character.{Character}
use Rattle.op_model.specs.declared.mark.Marks.{Marks}
use Rattle.op_model.specs.declared.span.Span.{Span}
use Rattle.op_model.specs.declared.change_step.ChangeStep.{ChangeStep}
use Rattle.op_model.specs.declared.change_step.ChangeStep.TheVariants.{Keep, Drop, Put, Mark}
use Rattle.op_model.specs.Spans.{is_same_marks}
use Rattle.op_model.specs.Changes.{became, in_one, with_step, with_any_step, steps, Seen, new_one, marked, applied}
use Rattle.model_laws.proofs.Runs.{marks_equal}

drop-add : (a b : ℕ) (xs : List Seen) → drop (a + b) xs ≡ drop b (drop a xs)
drop-add a b xs = sym (drop-drop b a xs)

-- a step before the steps after it, where the two first ones can be one, and where they can't
pub with_one : (s t u : ChangeStep) (ss : List ChangeStep) → in_one s t ≡ Some u → with_step s (t ∷ ss) ≡ u ∷ ss
with_one s t u ss e = ap (λ o. elim o as (λ _. List ChangeStep) [ Some v ↦ v ∷ ss | None ↦ s ∷ t ∷ ss ]) e

pub with_two : (s t : ChangeStep) (ss : List ChangeStep) → in_one s t ≡ None → with_step s (t ∷ ss) ≡ s ∷ t ∷ ss
with_two s t ss e = ap (λ o. elim o as (λ _. List ChangeStep) [ Some v ↦ v ∷ ss | None ↦ s ∷ t ∷ ss ]) e

pub puts_one : (s t : Span) → is_same_marks s.marks t.marks ≡ true
    → in_one (Put s) (Put t) ≡ Some (Put (record { text = s.text ++ t.text; marks = t.marks }))
puts_one s t e = rw e refl

pub puts_two : (s t : Span) → is_same_marks s.marks t.marks ≡ false → in_one (Put s) (Put t) ≡ None
puts_two s t e = rw e refl

pub marks_one : (a b : ℕ) (m n : Marks) → is_same_marks m n ≡ true → in_one (Mark a m) (Mark b n) ≡ Some (Mark (a + b) n)
marks_one a b m n e = rw e refl

pub marks_two : (a b : ℕ) (m n : Marks) → is_same_marks m n ≡ false → in_one (Mark a m) (Mark b n) ≡ None
marks_two a b m n e = rw e refl

-- a step that is joined with the next one does what the two did
applied_joined : (s t : ChangeStep) (ss : List ChangeStep) (xs : List Seen)
    → applied (with_step s (t ∷ ss)) xs ≡ applied (s ∷ t ∷ ss) xs
applied_joined (Keep a) (Keep b) ss xs =
    ap (λ ys. ys ++ applied ss (drop (a + b) xs)) (take-add a b xs)
    ∙ append_assoc (take a xs) (take b (drop a xs)) (applied ss (drop (a + b) xs))
    ∙ ap (λ ys. take a xs ++ (take b (drop a xs) ++ applied ss ys)) (drop-add a b xs)
applied_joined (Drop a) (Drop b) ss xs = ap (λ ys. applied ss ys) (drop-add a b xs)
applied_joined (Put s) (Put t) ss xs =
    elim (cases_Bool (is_same_marks s.marks t.marks)) [
      | inl e ↦
          ap (λ ys. applied ys xs) (with_one (Put s) (Put t) (Put (record { text = s.text ++ t.text; marks = t.marks })) ss (puts_one s t e))
          ∙ ap (λ ys. ys ++ applied ss xs) (map-append (new_one t.marks) s.text t.text)
          ∙ append_assoc (map (new_one t.marks) s.text) (map (new_one t.marks) t.text) (applied ss xs)
          ∙ ap (λ m. map (new_one m) s.text ++ (map (new_one t.marks) t.text ++ applied ss xs)) (sym (marks_equal s.marks t.marks e))
      | inr e ↦ ap (λ ys. applied ys xs) (with_two (Put s) (Put t) ss (puts_two s t e))
    ]
applied_joined (Mark a m) (Mark b n) ss xs =
    elim (cases_Bool (is_same_marks m n)) [
      | inl e ↦
          ap (λ ys. applied ys xs) (with_one (Mark a m) (Mark b n) (Mark (a + b) n) ss (marks_one a b m n e))
          ∙ ap (λ ys. map (marked n) ys ++ applied ss (drop (a + b) xs)) (take-add a b xs)
          ∙ ap (λ ys. ys ++ applied ss (drop (a + b) xs)) (map-append (marked n) (take a xs) (take b (drop a xs)))
          ∙ append_assoc (map (marked n) (take a xs)) (map (marked n) (take b (drop a xs))) (applied ss (drop (a + b) xs))
          ∙ ap (λ ys. map (marked n) (take a xs) ++ (map (marked n) (take b (drop a xs)) ++ applied ss ys)) (drop-add a b xs)
          ∙ ap (λ o. map (marked o) (take a xs) ++ (map (marked n) (take b (drop a xs)) ++ applied ss (drop b (drop a xs)))) (sym (marks_equal m n e))
      | inr e ↦ ap (λ ys. applied ys xs) (with_two (Mark a m) (Mark b n) ss (marks_two a b m n e))
    ]
applied_joined (Keep a) (Drop b) ss xs = refl
applied_joined (Keep a) (Put t) ss xs = refl
applied_joined (Keep a) (Mark b n) ss xs = refl
applied_joined (Drop a) (Keep b) ss xs = refl
applied_joined (Drop a) (Put t) ss xs = refl
applied_joined (Drop a) (Mark b n) ss xs = refl
applied_joined (Put s) (Keep b) ss xs = refl
applied_joined (Put s) (Drop b) ss xs = refl
applied_joined (Put s) (Mark b n) ss xs = refl
applied_joined (Mark a m) (Keep b) ss xs = refl
applied_joined (Mark a m) (Drop b) ss xs = refl
applied_joined (Mark a m) (Put t) ss xs = refl

applied_with : (s : ChangeStep) (ss : List ChangeStep) (xs : List Seen) → applied (with_step s ss) xs ≡ applied (s ∷ ss) xs
applied_with s [] xs = refl
applied_with s (t ∷ ss) xs = applied_joined s t ss xs

-- a character as it was seen, and as it is
abbrev pub was_seen : Marks → Character → Seen
was_seen marks c = record { id = Some c.id; value = c.value; marks = marks }

abbrev pub is_seen : Bool → Marks → Character → Seen
is_seen was marks c = record { id = cond was (Some c.id) None; value = c.value; marks = marks }

step_applied : (was is : Bool) (old new : Marks) (c : Character) (ss : List ChangeStep) (xs : List Seen)
    → applied (with_any_step (became was is old new c.value) ss) (cond was (was_seen old c ∷ xs) xs)
    ≡ cond is (is_seen was new c ∷ applied ss xs) (applied ss xs)
step_applied true true old new c ss xs =
    elim (cases_Bool (is_same_marks old new)) [
      | inl e ↦ rw e (applied_with (Keep 1) ss (was_seen old c ∷ xs) ∙ ap (λ m. was_seen m c ∷ applied ss xs) (marks_equal old new e))
      | inr e ↦ rw e (applied_with (Mark 1 new) ss (was_seen old c ∷ xs))
    ]
step_applied true false old new c ss xs = applied_with (Drop 1) ss (was_seen old c ∷ xs)
step_applied false true old new c ss xs = applied_with (Put (record { text = c.value ∷ []; marks = new })) ss xs
step_applied false false old new c ss xs = refl

map_kept : (f : Character → Seen) (b : Bool) (c : Character) (cs : List Character)
    → map f (cond b (c ∷ cs) cs) ≡ cond b (f c ∷ map f cs) (map f cs)
map_kept f true c cs = refl
map_kept f false c cs = refl

module _ (was is : Character → Bool) (old new : Character → Marks) where
  abbrev pub step : Character → Option ChangeStep
  step c = became (was c) (is c) (old c) (new c) c.value

  abbrev pub before : List Character → List Seen
  before cs = map (λ c. was_seen (old c) c) (filter was cs)

  abbrev pub after : List Character → List Seen
  after cs = map (λ c. is_seen (was c) (new c) c) (filter is cs)

  -- the steps make the text that is shown of the one that was
  pub applied_steps : (cs : List Character) → applied (steps step cs) (before cs) ≡ after cs
  applied_steps [] = refl
  applied_steps (c ∷ cs) =
      ap (λ xs. applied (with_any_step (step c) (steps step cs)) xs) (map_kept (λ x. was_seen (old x) x) (was c) c (filter was cs))
      ∙ step_applied (was c) (is c) (old c) (new c) c (steps step cs) (before cs)
      ∙ ap (λ xs. cond (is c) (is_seen (was c) (new c) c ∷ xs) xs) (applied_steps cs)
      ∙ sym (map_kept (λ x. is_seen (was x) (new x) x) (is c) c (filter is cs))
