-- Steps can be joined from the back as from the front.
use Rattle.std.proofs.Common.{◌≡◌, ℕ, ◌+◌, true, inl, inr, List, [], ◌∷◌, ◌++◌, Option, Some, None, arith, ap, refl, ◌∙◌, sym, append_assoc}
use Rattle.std.proofs.lemmas.Bool.{cases_Bool}
use Rattle.op_model.specs.declared.character.Character.{Character}
use Rattle.op_model.specs.declared.mark.Marks.{Marks}
use Rattle.op_model.specs.declared.span.Span.{Span}
use Rattle.op_model.specs.declared.change_step.ChangeStep.{ChangeStep}
use Rattle.op_model.specs.declared.change_step.ChangeStep.TheVariants.{Keep, Drop, Put, Mark}
use Rattle.op_model.specs.Spans.{is_same_marks}
use Rattle.op_model.specs.Changes.{in_one, with_step, with_any_step, steps}
use Rattle.model_laws.specs.Since.{with_last, with_any_last, followed_by}
use Rattle.model_laws.proofs.Runs.{marks_equal}
use Rattle.model_laws.proofs.Stepped.{with_one, with_two, puts_one, puts_two, marks_one, marks_two}
use Rattle.model_laws.proofs.StepShape.{Neighbours, neighbours, one, two}

last_one : (s t u : ChangeStep) → in_one s t ≡ Some u → with_last (s ∷ []) t ≡ u ∷ []
last_one s t u e = ap (λ o. elim o as (λ _. List ChangeStep) [ Some v ↦ v ∷ [] | None ↦ s ∷ t ∷ [] ]) e

last_two : (s t : ChangeStep) → in_one s t ≡ None → with_last (s ∷ []) t ≡ s ∷ t ∷ []
last_two s t e = ap (λ o. elim o as (λ _. List ChangeStep) [ Some v ↦ v ∷ [] | None ↦ s ∷ t ∷ [] ]) e

-- what three steps become, whichever two are joined first
record IsOfThree (s u w t x : ChangeStep) : Type 0 where
  from_front : in_one s u ≡ Some x
  from_back : in_one w t ≡ Some x

keeps_of_three : (x y z : ℕ) (u w : ChangeStep) → in_one (Keep x) (Keep y) ≡ Some w → in_one (Keep y) (Keep z) ≡ Some u
    → IsOfThree (Keep x) u w (Keep z) (Keep (x + (y + z)))
keeps_of_three x y z u w e f =
    let p : Keep (x + y) ≡ w = cc in let q : Keep (y + z) ≡ u = cc in
    let n : (x + y) + z ≡ x + (y + z) = omega arith in record {
      from_front = ap (λ v. in_one (Keep x) v) (sym q);
      from_back = ap (λ v. in_one v (Keep z)) (sym p) ∙ ap (λ k. Some (Keep k)) n;
    }

drops_of_three : (x y z : ℕ) (u w : ChangeStep) → in_one (Drop x) (Drop y) ≡ Some w → in_one (Drop y) (Drop z) ≡ Some u
    → IsOfThree (Drop x) u w (Drop z) (Drop (x + (y + z)))
drops_of_three x y z u w e f =
    let p : Drop (x + y) ≡ w = cc in let q : Drop (y + z) ≡ u = cc in
    let n : (x + y) + z ≡ x + (y + z) = omega arith in record {
      from_front = ap (λ v. in_one (Drop x) v) (sym q);
      from_back = ap (λ v. in_one v (Drop z)) (sym p) ∙ ap (λ k. Some (Drop k)) n;
    }

puts_of_three : (x y z : Span) (u w : ChangeStep) → in_one (Put x) (Put y) ≡ Some w → in_one (Put y) (Put z) ≡ Some u
    → IsOfThree (Put x) u w (Put z) (Put (record { text = x.text ++ (y.text ++ z.text); marks = z.marks }))
puts_of_three x y z u w e f =
    elim (cases_Bool (is_same_marks x.marks y.marks)) [
      | inr a ↦ let g = puts_two x y a in let h : ⊥ = cc in absurd h
      | inl a ↦ elim (cases_Bool (is_same_marks y.marks z.marks)) [
        | inr b ↦ let g = puts_two y z b in let h : ⊥ = cc in absurd h
        | inl b ↦
            let g = puts_one x y a in
            let h = puts_one y z b in
            let p : Put (record { text = x.text ++ y.text; marks = y.marks }) ≡ w = cc in
            let q : Put (record { text = y.text ++ z.text; marks = z.marks }) ≡ u = cc in
            let m : is_same_marks x.marks z.marks ≡ true = ap (λ o. is_same_marks x.marks o) (sym (marks_equal y.marks z.marks b)) ∙ a in record {
              from_front = ap (λ v. in_one (Put x) v) (sym q) ∙ puts_one x (record { text = y.text ++ z.text; marks = z.marks }) m;
              from_back =
                  ap (λ v. in_one v (Put z)) (sym p)
                  ∙ puts_one (record { text = x.text ++ y.text; marks = y.marks }) z b
                  ∙ ap (λ text. Some (Put (record { text = text; marks = z.marks }))) (append_assoc x.text y.text z.text);
            }
      ]
    ]

marks_of_three : (x y z : ℕ) (k m n : Marks) (u w : ChangeStep) → in_one (Mark x k) (Mark y m) ≡ Some w → in_one (Mark y m) (Mark z n) ≡ Some u
    → IsOfThree (Mark x k) u w (Mark z n) (Mark (x + (y + z)) n)
marks_of_three x y z k m n u w e f =
    elim (cases_Bool (is_same_marks k m)) [
      | inr a ↦ let g = marks_two x y k m a in let h : ⊥ = cc in absurd h
      | inl a ↦ elim (cases_Bool (is_same_marks m n)) [
        | inr b ↦ let g = marks_two y z m n b in let h : ⊥ = cc in absurd h
        | inl b ↦
            let g = marks_one x y k m a in
            let h = marks_one y z m n b in
            let p : Mark (x + y) m ≡ w = cc in
            let q : Mark (y + z) n ≡ u = cc in
            let o : is_same_marks k n ≡ true = ap (λ v. is_same_marks k v) (sym (marks_equal m n b)) ∙ a in
            let sums : (x + y) + z ≡ x + (y + z) = omega arith in record {
              from_front = ap (λ v. in_one (Mark x k) v) (sym q) ∙ marks_one x (y + z) k n o;
              from_back = ap (λ v. in_one v (Mark z n)) (sym p) ∙ marks_one (x + y) z m n b ∙ ap (λ count. Some (Mark count n)) sums;
            }
      ]
    ]

three : (s a t u w : ChangeStep) → in_one s a ≡ Some w → in_one a t ≡ Some u → (x : ChangeStep) × IsOfThree s u w t x
three (Keep x) (Keep y) (Keep z) u w e f = (_, keeps_of_three x y z u w e f)
three (Drop x) (Drop y) (Drop z) u w e f = (_, drops_of_three x y z u w e f)
three (Put x) (Put y) (Put z) u w e f = (_, puts_of_three x y z u w e f)
three (Mark x k) (Mark y m) (Mark z n) u w e f = (_, marks_of_three x y z k m n u w e f)
three s a t u w e f = let h : ⊥ = cc in absurd h

-- a step that can't be joined with the next one can't be joined with what that becomes
still_apart : (s a t u : ChangeStep) → in_one s a ≡ None → in_one a t ≡ Some u → in_one s u ≡ None
still_apart s (Keep y) (Keep z) u e f = let q : Keep (y + z) ≡ u = cc in ap (λ v. in_one s v) (sym q) ∙ before_keep s e
  where
    before_keep : (v : ChangeStep) → in_one v (Keep y) ≡ None → in_one v (Keep (y + z)) ≡ None
    before_keep (Keep x) g = let h : ⊥ = cc in absurd h
    before_keep (Drop x) g = refl
    before_keep (Put x) g = refl
    before_keep (Mark x m) g = refl
still_apart s (Drop y) (Drop z) u e f = let q : Drop (y + z) ≡ u = cc in ap (λ v. in_one s v) (sym q) ∙ before_drop s e
  where
    before_drop : (v : ChangeStep) → in_one v (Drop y) ≡ None → in_one v (Drop (y + z)) ≡ None
    before_drop (Keep x) g = refl
    before_drop (Drop x) g = let h : ⊥ = cc in absurd h
    before_drop (Put x) g = refl
    before_drop (Mark x m) g = refl
still_apart s (Put y) (Put z) u e f =
    elim (cases_Bool (is_same_marks y.marks z.marks)) [
      | inr b ↦ let g = puts_two y z b in let h : ⊥ = cc in absurd h
      | inl b ↦
          let g = puts_one y z b in
          let q : Put (record { text = y.text ++ z.text; marks = z.marks }) ≡ u = cc in
          ap (λ v. in_one s v) (sym q) ∙ before_put (marks_equal y.marks z.marks b) s e
    ]
  where
    before_put : y.marks ≡ z.marks → (v : ChangeStep) → in_one v (Put y) ≡ None
        → in_one v (Put (record { text = y.text ++ z.text; marks = z.marks })) ≡ None
    before_put m (Keep x) g = refl
    before_put m (Drop x) g = refl
    before_put m (Put x) g =
        elim (cases_Bool (is_same_marks x.marks y.marks)) [
          | inl a ↦ let k = puts_one x y a in let h : ⊥ = cc in absurd h
          | inr a ↦ puts_two x (record { text = y.text ++ z.text; marks = z.marks }) (ap (λ o. is_same_marks x.marks o) (sym m) ∙ a)
        ]
    before_put m (Mark x n) g = refl
still_apart s (Mark y m) (Mark z n) u e f =
    elim (cases_Bool (is_same_marks m n)) [
      | inr b ↦ let g = marks_two y z m n b in let h : ⊥ = cc in absurd h
      | inl b ↦
          let g = marks_one y z m n b in
          let q : Mark (y + z) n ≡ u = cc in
          ap (λ v. in_one s v) (sym q) ∙ before_mark (marks_equal m n b) s e
    ]
  where
    before_mark : m ≡ n → (v : ChangeStep) → in_one v (Mark y m) ≡ None → in_one v (Mark (y + z) n) ≡ None
    before_mark o (Keep x) g = refl
    before_mark o (Drop x) g = refl
    before_mark o (Put x) g = refl
    before_mark o (Mark x k) g =
        elim (cases_Bool (is_same_marks k m)) [
          | inl a ↦ let r = marks_one x y k m a in let h : ⊥ = cc in absurd h
          | inr a ↦ marks_two x (y + z) k n (ap (λ v. is_same_marks k v) (sym o) ∙ a)
        ]
still_apart s a t u e f = let h : ⊥ = cc in absurd h

around_one : (s a t : ChangeStep) → with_step s (with_last (a ∷ []) t) ≡ with_last (with_step s (a ∷ [])) t
around_one s a t = by (neighbours s a) (neighbours a t)
  where
    by : Neighbours s a → Neighbours a t → with_step s (with_last (a ∷ []) t) ≡ with_last (with_step s (a ∷ [])) t
    by (one w e p q next some) (one u f p' q' next' some') =
        let (x, k) = three s a t u w e f in
        ap (λ ss. with_step s ss) (last_one a t u f)
        ∙ with_one s u x [] k.from_front
        ∙ sym (last_one w t x k.from_back)
        ∙ ap (λ ss. with_last ss t) (sym (with_one s a w [] e))
    by (one w e p q next some) (two f) =
        ap (λ ss. with_step s ss) (last_two a t f)
        ∙ with_one s a w (t ∷ []) e
        ∙ sym (last_two w t (next t f))
        ∙ ap (λ ss. with_last ss t) (sym (with_one s a w [] e))
    by (two e) (one u f p' q' next' some') =
        ap (λ ss. with_step s ss) (last_one a t u f)
        ∙ with_two s u [] (still_apart s a t u e f)
        ∙ ap (λ ss. s ∷ ss) (sym (last_one a t u f))
        ∙ ap (λ ss. with_last ss t) (sym (with_two s a [] e))
    by (two e) (two f) =
        ap (λ ss. with_step s ss) (last_two a t f)
        ∙ with_two s a (t ∷ []) e
        ∙ ap (λ ss. s ∷ ss) (sym (last_two a t f))
        ∙ ap (λ ss. with_last ss t) (sym (with_two s a [] e))

-- one step put in front and one after: in either order
around : (s t : ChangeStep) (ss : List ChangeStep) → with_step s (with_last ss t) ≡ with_last (with_step s ss) t
around s t [] = refl
around s t (a ∷ []) = around_one s a t
around s t (a ∷ b ∷ ss) = by (neighbours s a)
  where
    by : Neighbours s a → with_step s (a ∷ with_last (b ∷ ss) t) ≡ with_last (with_step s (a ∷ b ∷ ss)) t
    by (one w e p q next some) =
        with_one s a w (with_last (b ∷ ss) t) e
        ∙ ap (λ xs. with_last xs t) (sym (with_one s a w (b ∷ ss) e))
    by (two e) =
        with_two s a (with_last (b ∷ ss) t) e
        ∙ ap (λ xs. with_last xs t) (sym (with_two s a (b ∷ ss) e))

around_any : (s t : Option ChangeStep) (ss : List ChangeStep)
    → with_any_step s (with_any_last ss t) ≡ with_any_last (with_any_step s ss) t
around_any None t ss = refl
around_any (Some s) None ss = refl
around_any (Some s) (Some t) ss = around s t ss

first_and_last : (s : Option ChangeStep) → with_any_step s [] ≡ with_any_last [] s
first_and_last None = refl
first_and_last (Some s) = refl

-- the steps of characters and of one more
pub steps-push : (step : Character → Option ChangeStep) (cs : List Character) (c : Character)
    → steps step (cs ++ c ∷ []) ≡ with_any_last (steps step cs) (step c)
steps-push step [] c = first_and_last (step c)
steps-push step (x ∷ cs) c =
    ap (λ ss. with_any_step (step x) ss) (steps-push step cs c)
    ∙ around_any (step x) (step c) (steps step cs)

-- a step before some and more is a step before some, and more
front-append : (s x : ChangeStep) (xs ts : List ChangeStep) → with_step s (x ∷ (xs ++ ts)) ≡ with_step s (x ∷ xs) ++ ts
front-append s x xs ts = by (neighbours s x)
  where
    by : Neighbours s x → with_step s (x ∷ (xs ++ ts)) ≡ with_step s (x ∷ xs) ++ ts
    by (one u e p q next some) = with_one s x u (xs ++ ts) e ∙ ap (λ ys. ys ++ ts) (sym (with_one s x u xs e))
    by (two e) = with_two s x (xs ++ ts) e ∙ ap (λ ys. ys ++ ts) (sym (with_two s x xs e))

with-append : (s t : ChangeStep) (ss ts : List ChangeStep) → with_step s (with_last ss t ++ ts) ≡ with_step s (with_last ss t) ++ ts
with-append s t [] ts = front-append s t [] ts
with-append s t (a ∷ []) ts = by (neighbours a t)
  where
    by : Neighbours a t → with_step s (with_last (a ∷ []) t ++ ts) ≡ with_step s (with_last (a ∷ []) t) ++ ts
    by (one u e p q next some) =
        ap (λ xs. with_step s (xs ++ ts)) (last_one a t u e)
        ∙ front-append s u [] ts
        ∙ ap (λ xs. with_step s xs ++ ts) (sym (last_one a t u e))
    by (two e) =
        ap (λ xs. with_step s (xs ++ ts)) (last_two a t e)
        ∙ front-append s a (t ∷ []) ts
        ∙ ap (λ xs. with_step s xs ++ ts) (sym (last_two a t e))
with-append s t (a ∷ b ∷ ss) ts = front-append s a (with_last (b ∷ ss) t) ts

before_both : (s : Option ChangeStep) (ss ts : List ChangeStep) → with_any_step s (followed_by ss ts) ≡ followed_by (with_any_step s ss) ts
before_both None ss ts = refl
before_both (Some s) ss [] = refl
before_both (Some s) ss (t ∷ ts) = with-append s t ss ts ∙ ap (λ xs. xs ++ ts) (around s t ss)

-- the steps of two parts of a text
pub steps-append : (step : Character → Option ChangeStep) (cs ds : List Character)
    → steps step (cs ++ ds) ≡ followed_by (steps step cs) (steps step ds)
steps-append step [] ds = alone (steps step ds)
  where
    alone : (ts : List ChangeStep) → ts ≡ followed_by [] ts
    alone [] = refl
    alone (t ∷ ts) = refl
steps-append step (c ∷ cs) ds =
    ap (λ ss. with_any_step (step c) ss) (steps-append step cs ds)
    ∙ before_both (step c) (steps step cs) (steps step ds)
