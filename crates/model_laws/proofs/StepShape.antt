-- How long steps are, that no two neighbours could be one, and that none is empty.
use Rattle.std.proofs.Common.{◌≡◌, ℕ, zero, suc, ◌+◌, ◌<◌, Bool, true, false, cond, inl, inr, List, [], ◌∷◌, ◌++◌, length}
use Rattle.std.proofs.Common.{filter, Some, None, arith, ap, refl, ◌∙◌, sym, length-append}
use Rattle.std.proofs.lemmas.Bool.{cases_Bool}
use Rattle.op_model.specs.declared.character.Character.{Character}
use Rattle.op_model.specs.declared.mark.Marks.{Marks}
use Rattle.op_model.specs.declared.span.Span.{Span}
use Rattle.op_model.specs.declared.change_step.ChangeStep.{ChangeStep}
use Rattle.op_model.specs.declared.change_step.ChangeStep.TheVariants.{Keep, Drop, Put, Mark}
use Rattle.op_model.specs.Spans.{is_same_marks}
use Rattle.op_model.specs.Changes.{became, in_one, with_step, with_any_step, steps}
use Rattle.model_laws.specs.Since.{size_of_step, taken, given, AreJoined, AreSome, all_kept}
use Rattle.model_laws.proofs.Runs.{marks_same}
use Rattle.model_laws.proofs.Stepped.{with_one, with_two, puts_one, puts_two, marks_one, marks_two, step}

-- how many characters of the old text a step takes, and how many of the new one it gives
abbrev takes : ChangeStep → ℕ
takes (Keep n) = n
takes (Drop n) = n
takes (Put s) = 0
takes (Mark n marks) = n

abbrev gives : ChangeStep → ℕ
gives (Keep n) = n
gives (Drop n) = 0
gives (Put s) = length s.text
gives (Mark n marks) = n

taken_more : (s : ChangeStep) (ss : List ChangeStep) → taken (s ∷ ss) ≡ takes s + taken ss
taken_more (Keep n) ss = refl
taken_more (Drop n) ss = refl
taken_more (Put s) ss = omega arith
taken_more (Mark n marks) ss = refl

given_more : (s : ChangeStep) (ss : List ChangeStep) → given (s ∷ ss) ≡ gives s + given ss
given_more (Keep n) ss = refl
given_more (Drop n) ss = omega arith
given_more (Put s) ss = refl
given_more (Mark n marks) ss = refl

-- what two neighbours become, of which the first can't be joined with the second or can
pub data Neighbours (s t : ChangeStep) : Type 0 where
  one : (u : ChangeStep) → in_one s t ≡ Some u → takes u ≡ takes s + takes t → gives u ≡ gives s + gives t
      → ((v : ChangeStep) → in_one t v ≡ None → in_one u v ≡ None)
      → (0 < size_of_step t → 0 < size_of_step u) → Neighbours s t
  two : in_one s t ≡ None → Neighbours s t

keep_next : (a b : ℕ) (v : ChangeStep) → in_one (Keep b) v ≡ None → in_one (Keep a) v ≡ None
keep_next a b (Keep n) e = let f : ⊥ = cc in absurd f
keep_next a b (Drop n) e = refl
keep_next a b (Put s) e = refl
keep_next a b (Mark n m) e = refl

drop_next : (a b : ℕ) (v : ChangeStep) → in_one (Drop b) v ≡ None → in_one (Drop a) v ≡ None
drop_next a b (Keep n) e = refl
drop_next a b (Drop n) e = let f : ⊥ = cc in absurd f
drop_next a b (Put s) e = refl
drop_next a b (Mark n m) e = refl

put_next : (text : List ℕ) (t : Span) (v : ChangeStep) → in_one (Put t) v ≡ None
    → in_one (Put (record { text = text; marks = t.marks })) v ≡ None
put_next text t (Keep n) e = refl
put_next text t (Drop n) e = refl
put_next text t (Put s) e =
    elim (cases_Bool (is_same_marks t.marks s.marks)) [
      | inl f ↦ let g = puts_one t s f in let h : ⊥ = cc in absurd h
      | inr f ↦ rw f refl
    ]
put_next text t (Mark n m) e = refl

mark_next : (a b : ℕ) (marks : Marks) (v : ChangeStep) → in_one (Mark b marks) v ≡ None → in_one (Mark a marks) v ≡ None
mark_next a b marks (Keep n) e = refl
mark_next a b marks (Drop n) e = refl
mark_next a b marks (Put s) e = refl
mark_next a b marks (Mark n m) e =
    elim (cases_Bool (is_same_marks marks m)) [
      | inl f ↦ let g = marks_one b n marks m f in let h : ⊥ = cc in absurd h
      | inr f ↦ rw f refl
    ]

pub neighbours : (s t : ChangeStep) → Neighbours s t
neighbours (Keep a) (Keep b) = one (Keep (a + b)) refl refl refl (λ v e. keep_next (a + b) b v e) (λ l. omega arith)
neighbours (Drop a) (Drop b) = one (Drop (a + b)) refl refl refl (λ v e. drop_next (a + b) b v e) (λ l. omega arith)
neighbours (Put s) (Put t) =
    elim (cases_Bool (is_same_marks s.marks t.marks)) [
      | inl e ↦ one (Put (record { text = s.text ++ t.text; marks = t.marks })) (puts_one s t e) refl (length-append s.text t.text)
          (λ v f. put_next (s.text ++ t.text) t v f) (λ l. omega (arith, length-append s.text t.text))
      | inr e ↦ two (puts_two s t e)
    ]
neighbours (Mark a m) (Mark b n) =
    elim (cases_Bool (is_same_marks m n)) [
      | inl e ↦ one (Mark (a + b) n) (marks_one a b m n e) refl refl (λ v f. mark_next (a + b) b n v f) (λ l. omega arith)
      | inr e ↦ two (marks_two a b m n e)
    ]
neighbours (Keep a) (Drop b) = two refl
neighbours (Keep a) (Put t) = two refl
neighbours (Keep a) (Mark b n) = two refl
neighbours (Drop a) (Keep b) = two refl
neighbours (Drop a) (Put t) = two refl
neighbours (Drop a) (Mark b n) = two refl
neighbours (Put s) (Keep b) = two refl
neighbours (Put s) (Drop b) = two refl
neighbours (Put s) (Mark b n) = two refl
neighbours (Mark a m) (Keep b) = two refl
neighbours (Mark a m) (Drop b) = two refl
neighbours (Mark a m) (Put t) = two refl

taken_with : (s : ChangeStep) (ss : List ChangeStep) → taken (with_step s ss) ≡ takes s + taken ss
taken_with s [] = taken_more s []
taken_with s (t ∷ ss) = by (neighbours s t)
  where
    by : Neighbours s t → taken (with_step s (t ∷ ss)) ≡ takes s + taken (t ∷ ss)
    by (one u e f g next some) = ap taken (with_one s t u ss e) ∙ omega (arith, taken_more u ss, taken_more t ss, f)
    by (two e) = ap taken (with_two s t ss e) ∙ taken_more s (t ∷ ss)

given_with : (s : ChangeStep) (ss : List ChangeStep) → given (with_step s ss) ≡ gives s + given ss
given_with s [] = given_more s []
given_with s (t ∷ ss) = by (neighbours s t)
  where
    by : Neighbours s t → given (with_step s (t ∷ ss)) ≡ gives s + given (t ∷ ss)
    by (one u e f g next some) = ap given (with_one s t u ss e) ∙ omega (arith, given_more u ss, given_more t ss, g)
    by (two e) = ap given (with_two s t ss e) ∙ given_more s (t ∷ ss)

joined_first : (t u : ChangeStep) (ss : List ChangeStep) → ((v : ChangeStep) → in_one t v ≡ None → in_one u v ≡ None)
    → AreJoined (t ∷ ss) → AreJoined (u ∷ ss)
joined_first t u [] next h = tt
joined_first t u (v ∷ ss) next h = (next v h.0, h.1)

joined_with : (s : ChangeStep) (ss : List ChangeStep) → AreJoined ss → AreJoined (with_step s ss)
joined_with s [] h = tt
joined_with s (t ∷ ss) h = by (neighbours s t)
  where
    by : Neighbours s t → AreJoined (with_step s (t ∷ ss))
    by (one u e f g next some) = rw (with_one s t u ss e) (joined_first t u ss next h)
    by (two e) = rw (with_two s t ss e) (e, h)

some_with : (s : ChangeStep) (ss : List ChangeStep) → 0 < size_of_step s → AreSome ss → AreSome (with_step s ss)
some_with s [] l h = (l, tt)
some_with s (t ∷ ss) l h = by (neighbours s t)
  where
    by : Neighbours s t → AreSome (with_step s (t ∷ ss))
    by (one u e f g next some) = rw (with_one s t u ss e) (some h.0, h.1)
    by (two e) = rw (with_two s t ss e) (l, h)

-- what a character's step takes and gives
step_taken : (was is : Bool) (old new : Marks) (value : ℕ) (ss : List ChangeStep)
    → taken (with_any_step (became was is old new value) ss) ≡ cond was 1 0 + taken ss
step_taken true true old new value ss =
    elim (cases_Bool (is_same_marks old new)) [ inl e ↦ rw e (taken_with (Keep 1) ss) | inr e ↦ rw e (taken_with (Mark 1 new) ss) ]
step_taken true false old new value ss = taken_with (Drop 1) ss
step_taken false true old new value ss = taken_with (Put (record { text = value ∷ []; marks = new })) ss
step_taken false false old new value ss = omega arith

step_given : (was is : Bool) (old new : Marks) (value : ℕ) (ss : List ChangeStep)
    → given (with_any_step (became was is old new value) ss) ≡ cond is 1 0 + given ss
step_given true true old new value ss =
    elim (cases_Bool (is_same_marks old new)) [ inl e ↦ rw e (given_with (Keep 1) ss) | inr e ↦ rw e (given_with (Mark 1 new) ss) ]
step_given true false old new value ss = given_with (Drop 1) ss
step_given false true old new value ss = given_with (Put (record { text = value ∷ []; marks = new })) ss
step_given false false old new value ss = omega arith

step_joined : (was is : Bool) (old new : Marks) (value : ℕ) (ss : List ChangeStep) → AreJoined ss
    → AreJoined (with_any_step (became was is old new value) ss)
step_joined true true old new value ss h =
    elim (cases_Bool (is_same_marks old new)) [ inl e ↦ rw e (joined_with (Keep 1) ss h) | inr e ↦ rw e (joined_with (Mark 1 new) ss h) ]
step_joined true false old new value ss h = joined_with (Drop 1) ss h
step_joined false true old new value ss h = joined_with (Put (record { text = value ∷ []; marks = new })) ss h
step_joined false false old new value ss h = h

step_some : (was is : Bool) (old new : Marks) (value : ℕ) (ss : List ChangeStep) → AreSome ss
    → AreSome (with_any_step (became was is old new value) ss)
step_some true true old new value ss h =
    elim (cases_Bool (is_same_marks old new)) [ inl e ↦ rw e (some_with (Keep 1) ss (omega arith) h) | inr e ↦ rw e (some_with (Mark 1 new) ss (omega arith) h) ]
step_some true false old new value ss h = some_with (Drop 1) ss (omega arith) h
step_some false true old new value ss h = some_with (Put (record { text = value ∷ []; marks = new })) ss (omega arith) h
step_some false false old new value ss h = h

length_kept : (b : Bool) (c : Character) (cs : List Character) → length (cond b (c ∷ cs) cs) ≡ cond b 1 0 + length cs
length_kept true c cs = omega arith
length_kept false c cs = omega arith

module _ (was is : Character → Bool) (old new : Character → Marks) where
  abbrev told : List Character → List ChangeStep
  told cs = steps (step was is old new) cs

  -- they take the characters that were shown
  pub steps_taken : (cs : List Character) → taken (told cs) ≡ length (filter was cs)
  steps_taken [] = refl
  steps_taken (c ∷ cs) = step_taken (was c) (is c) (old c) (new c) c.value (told cs) ∙ ap (λ n. cond (was c) 1 0 + n) (steps_taken cs) ∙ sym (length_kept (was c) c (filter was cs))

  -- they give the characters that are shown
  pub steps_given : (cs : List Character) → given (told cs) ≡ length (filter is cs)
  steps_given [] = refl
  steps_given (c ∷ cs) = step_given (was c) (is c) (old c) (new c) c.value (told cs) ∙ ap (λ n. cond (is c) 1 0 + n) (steps_given cs) ∙ sym (length_kept (is c) c (filter is cs))

  pub steps_joined : (cs : List Character) → AreJoined (told cs)
  steps_joined [] = tt
  steps_joined (c ∷ cs) = step_joined (was c) (is c) (old c) (new c) c.value (told cs) (steps_joined cs)

  pub steps_some : (cs : List Character) → AreSome (told cs)
  steps_some [] = tt
  steps_some (c ∷ cs) = step_some (was c) (is c) (old c) (new c) c.value (told cs) (steps_some cs)

pub kept_with : (n : ℕ) → with_step (Keep 1) (all_kept n) ≡ all_kept (suc n)
kept_with zero = refl
kept_with (suc n) = ap (λ k. Keep k ∷ []) (omega arith)

step_unchanged : (was : Bool) (marks : Marks) (value n : ℕ) → with_any_step (became was was marks marks value) (all_kept n) ≡ all_kept (cond was 1 0 + n)
step_unchanged true marks value n = let e : suc n ≡ 1 + n = omega arith in rw (marks_same marks) (kept_with n ∙ ap all_kept e)
step_unchanged false marks value n = let e : n ≡ 0 + n = omega arith in ap all_kept e

-- characters that are as they were are kept
pub steps_unchanged : (was : Character → Bool) (marks : Character → Marks) (cs : List Character)
    → steps (step was was marks marks) cs ≡ all_kept (length (filter was cs))
steps_unchanged was marks [] = refl
steps_unchanged was marks (c ∷ cs) =
    ap (λ ss. with_any_step (became (was c) (was c) (marks c) (marks c) c.value) ss) (steps_unchanged was marks cs)
    ∙ step_unchanged (was c) (marks c) c.value (length (filter was cs))
    ∙ ap all_kept (sym (length_kept (was c) c (filter was cs)))
