-- Steps that are told from left to right.
use Rattle.std.proofs.Common.{◌≡◌, ℕ, ◌+◌, Bool, true, false, List, [], ◌∷◌, ◌++◌, refl, sym, ◌∙◌, ap, zero, suc, ◌<◌, ◌≤◌, ◌⊎◌, inl, inr, length, arith}
use Rattle.std.specs.Prelude.{Some, None, Option}
use Rattle.std.proofs.lemmas.Bool.{cases_Bool}
use Rattle.span_flatten.specs.Listing.{listed_any, listed_step, listed_steps}
use Rattle.op_model.specs.declared.change_step.ChangeStep.{ChangeStep}
use Rattle.op_model.specs.declared.change_step.ChangeStep.TheVariants.{Put, Mark, Keep, Drop}
use Rattle.op_model.specs.declared.mark.Marks.{Marks}
use Rattle.op_model.specs.declared.span.Span.{Span}
use Rattle.op_model.specs.Changes.{became, in_one}
use Rattle.op_model.specs.Spans.{is_same_marks}
use Rattle.model_laws.specs.Since.{with_last, with_any_last}
use Rattle.model_laws.proofs.Runs.{marks_equal}
use Rattle.span_flatten.specs.Telling.{brought, turned, keeping}

-- a step after a last one, which stands after others
pub behind : (front : List ChangeStep) (s t : ChangeStep) → front ++ with_last (s ∷ []) t ≡ with_last (front ++ s ∷ []) t
behind [] s t = refl
behind (x ∷ []) s t = refl
behind (x ∷ y ∷ front) s t = ap (λ ss. x ∷ ss) (behind (y ∷ front) s t)

-- joined with it, or not
pub joined_one : (s t u : ChangeStep) → in_one s t ≡ Some u → with_last (s ∷ []) t ≡ u ∷ []
joined_one s t u e = ap (λ o. elim o as (λ _. List ChangeStep) [ Some v ↦ v ∷ [] | None ↦ s ∷ t ∷ [] ]) e

pub joined_two : (s t : ChangeStep) → in_one s t ≡ None → with_last (s ∷ []) t ≡ s ∷ t ∷ []
joined_two s t e = ap (λ o. elim o as (λ _. List ChangeStep) [ Some v ↦ v ∷ [] | None ↦ s ∷ t ∷ [] ]) e

-- a character comes after others, or is marked after others
pub put_one : (s : Span) (value : ℕ) (marks : Marks) → is_same_marks s.marks marks ≡ true
    → Put (record { text = s.text ++ value ∷ []; marks = s.marks }) ∷ [] ≡ with_last (Put s ∷ []) (brought value marks)
put_one s value marks e =
    ap (λ m. Put (record { text = s.text ++ value ∷ []; marks = m }) ∷ []) (marks_equal s.marks marks e)
    ∙ sym (joined_one (Put s) (brought value marks) (Put (record { text = s.text ++ value ∷ []; marks = marks })) (rw e refl))

pub put_two : (s : Span) (value : ℕ) (marks : Marks) → is_same_marks s.marks marks ≡ false
    → Put s ∷ brought value marks ∷ [] ≡ with_last (Put s ∷ []) (brought value marks)
put_two s value marks e = sym (joined_two (Put s) (brought value marks) (rw e refl))

pub mark_one : (n more : ℕ) (held marks : Marks) → more ≡ n + 1 → is_same_marks held marks ≡ true
    → Mark more held ∷ [] ≡ with_last (Mark n held ∷ []) (Mark 1 marks)
mark_one n more held marks up e =
    rw up (ap (λ m. Mark (n + 1) m ∷ []) (marks_equal held marks e)
    ∙ sym (joined_one (Mark n held) (Mark 1 marks) (Mark (n + 1) marks) (rw e refl)))

pub mark_two : (n : ℕ) (held marks : Marks) → is_same_marks held marks ≡ false
    → Mark n held ∷ Mark 1 marks ∷ [] ≡ with_last (Mark n held ∷ []) (Mark 1 marks)
mark_two n held marks e = sym (joined_two (Mark n held) (Mark 1 marks) (rw e refl))

-- what became of a character, where it is known whether its marks are the same
pub became_turned : (was is : Bool) (old new : Marks) (value : ℕ) → became was is old new value ≡ turned was is (is_same_marks old new) new value
became_turned true true old new value = refl
became_turned true false old new value = refl
became_turned false true old new value = refl
became_turned false false old new value = refl

-- a step behind others makes them one more, or joins the last one, and then they list as many as before
one_lists : (t s u : ChangeStep) → in_one t s ≡ Some u → listed_step u ≡ listed_step t
one_lists (Keep a) (Keep b) u e = let same : Keep (a + b) ≡ u = cc in ap listed_step (sym same)
one_lists (Drop a) (Drop b) u e = let same : Drop (a + b) ≡ u = cc in ap listed_step (sym same)
one_lists (Put x) (Put y) u e =
    elim (cases_Bool (is_same_marks x.marks y.marks)) [
      | inl a ↦
          let same : Put (record { text = x.text ++ y.text; marks = y.marks }) ≡ u = let h = rw a at e in cc in
          ap listed_step (sym same) ∙ ap (λ (m : Marks). length m.comments) (sym (marks_equal x.marks y.marks a))
      | inr a ↦ let h : ⊥ = let g = rw a at e in cc in absurd h
    ]
one_lists (Mark a x) (Mark b y) u e =
    elim (cases_Bool (is_same_marks x y)) [
      | inl f ↦
          let same : Mark (a + b) y ≡ u = let h = rw f at e in cc in
          ap listed_step (sym same) ∙ ap (λ (m : Marks). length m.comments) (sym (marks_equal x y f))
      | inr f ↦ let h : ⊥ = let g = rw f at e in cc in absurd h
    ]
one_lists t s u e = let h : ⊥ = cc in absurd h

pub record HasJoined (old new : List ChangeStep) : Type 0 where
  pub long : length new ≡ length old
  pub lists : listed_steps new ≡ listed_steps old

pub record HasGrown (old new : List ChangeStep) (more : ℕ) : Type 0 where
  pub long : length new ≡ length old + 1
  pub lists : listed_steps new ≡ listed_steps old + more

pub joined_or_grown : (ss : List ChangeStep) (s : ChangeStep) → HasJoined ss (with_last ss s) ⊎ HasGrown ss (with_last ss s) (listed_step s)
joined_or_grown [] s = inr (record { long = omega arith; lists = omega arith })
joined_or_grown (t ∷ []) s = by (in_one t s) refl
  where
    by : (o : Option ChangeStep) → in_one t s ≡ o → HasJoined (t ∷ []) (with_last (t ∷ []) s) ⊎ HasGrown (t ∷ []) (with_last (t ∷ []) s) (listed_step s)
    by (Some u) e =
        let is = joined_one t s u e in let same = one_lists t s u e in
        inl (record { long = ap length is; lists = ap listed_steps is ∙ ap (λ n. n + 0) same })
    by None e =
        let is = joined_two t s e in
        inr (record { long = ap length is ∙ omega arith; lists = ap listed_steps is ∙ omega arith })
joined_or_grown (t ∷ v ∷ ss) s =
    elim (joined_or_grown (v ∷ ss) s) [
      | inl h ↦ let long = h.long in let lists = h.lists in
          inl (record { long = omega (arith, long); lists = omega (arith, lists) })
      | inr h ↦ let long = h.long in let lists = h.lists in
          inr (record { long = omega (arith, long); lists = omega (arith, lists) })
    ]

-- kept characters list nothing
pub keeping_lists : (ss : List ChangeStep) (n : ℕ) → listed_steps (keeping ss n) ≡ listed_steps ss
keeping_lists ss zero = refl
keeping_lists ss (suc n) =
    elim (joined_or_grown ss (Keep (suc n))) [
      | inl h ↦ h.lists
      | inr h ↦ let lists = h.lists in omega (arith, lists)
    ]

-- what is left, where a step came behind others or not
pub left_any : (old new : List ChangeStep) (o : Option ChangeStep) (left : ℕ) → new ≡ with_any_last old o → length new ≤ length old
    → listed_steps new + left ≡ listed_steps old + left
left_any old new None left is short = ap (λ ss. listed_steps ss + left) is
left_any old new (Some s) left is short =
    let same = ap length is in
    elim (joined_or_grown old s) [
      | inl h ↦ ap (λ ss. listed_steps ss + left) is ∙ ap (λ n. n + left) h.lists
      | inr h ↦ let long = h.long in absurd (omega (arith, long, same, short))
    ]

pub left_more : (old new : List ChangeStep) (o : Option ChangeStep) (left now : ℕ) → new ≡ with_any_last old o → length old < length new
    → now + listed_any o ≡ left → listed_steps new + now ≡ listed_steps old + left
left_more old new None left now is more less = let same = ap length is in absurd (omega (arith, same, more))
left_more old new (Some s) left now is more less =
    let same = ap length is in
    let count = ap listed_steps is in
    elim (joined_or_grown old s) [
      | inl h ↦ let long = h.long in absurd (omega (arith, long, same, more))
      | inr h ↦ let lists = h.lists in omega (arith, lists, count, less)
    ]
