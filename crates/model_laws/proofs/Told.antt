-- The steps from a beginning of the operations to all of them.
use Rattle.std.proofs.Common.{◌≡◌, ℕ, Bool, true, not, ◌&&◌, inl, inr, List, [], ◌∷◌, ◌++◌, length, filter, map, ap, refl, ◌∙◌, sym}
use Rattle.std.proofs.lemmas.Bool.{cases_Bool}
use Rattle.op_model.specs.declared.op.Op.{Op}
use Rattle.op_model.specs.declared.character.Character.{Character}
use Rattle.op_model.specs.Walk.{walk}
use Rattle.op_model.specs.Text.{is_removed, visible}
use Rattle.op_model.specs.Placing.{has_id, IsOrderly}
use Rattle.op_model.specs.Changes.{is_shown, marks_at, changes, applied, shown, shown_since}
use Rattle.op_model.specs.Spans.{spans}
use Rattle.model_laws.specs.Since.{taken, given, AreJoined, AreSome, all_kept, as_spans}
use Rattle.model_laws.proofs.LaterWalk.{AreHere, here_itself, walk_later}
use Rattle.model_laws.proofs.Stepped.{applied_steps, was_seen, is_seen}
use Rattle.model_laws.proofs.StepShape.{steps_taken, steps_given, steps_joined, steps_some, steps_unchanged}
use Rattle.model_laws.proofs.Shown.{shown_spans}

-- two tests, one after the other, are one
filter_both : (p q : Character → Bool) (cs : List Character) → filter q (filter p cs) ≡ filter (λ c. p c && q c) cs
filter_both p q [] = refl
filter_both p q (c ∷ cs) =
    elim (cases_Bool (p c)) [
      | inl e ↦ elim (cases_Bool (q c)) [
        | inl f ↦ rw (e, f) (ap (λ xs. c ∷ xs) (filter_both p q cs))
        | inr f ↦ rw (e, f) (filter_both p q cs)
      ]
      | inr e ↦ rw e (filter_both p q cs)
    ]

-- a test that all pass beside another says nothing
filter_here : (all : List Character) (q : Character → Bool) (cs : List Character) → AreHere (λ id. has_id all id) cs
    → filter (λ c. has_id all c.id && q c) cs ≡ filter q cs
filter_here all q [] h = refl
filter_here all q (c ∷ cs) h =
    let e : has_id all c.id ≡ true = h.0 in
    elim (cases_Bool (q c)) [
      | inl f ↦ rw (e, f) (ap (λ xs. c ∷ xs) (filter_here all q cs h.1))
      | inr f ↦ rw (e, f) (filter_here all q cs h.1)
    ]

-- the characters that are shown
pub shown_now : (ops : List Op) (doc : ℕ) → filter (λ c. is_shown ops doc c) (walk ops doc) ≡ visible ops doc
shown_now ops doc = filter_here (walk ops doc) (λ c. not (is_removed ops doc c)) (walk ops doc) (here_itself (walk ops doc))

-- the characters that were shown, among all of now
pub shown_then : (before more : List Op) (doc : ℕ) → IsOrderly (before ++ more) doc
    → filter (λ c. is_shown before doc c) (walk (before ++ more) doc) ≡ visible before doc
shown_then before more doc h =
    sym (filter_both (λ c. has_id (walk before doc) c.id) (λ c. not (is_removed before doc c)) (walk (before ++ more) doc))
    ∙ ap (λ cs. filter (λ c. not (is_removed before doc c)) cs) (sym (walk_later before more doc h))

-- the steps make what is shown now of what was shown before
pub changes_applied : (before more : List Op) (doc : ℕ) → IsOrderly (before ++ more) doc
    → applied (changes before (before ++ more) doc) (shown before doc) ≡ shown_since before (before ++ more) doc
changes_applied before more doc h =
    let now : List Op = before ++ more in
    ap (λ cs. applied (changes before now doc) (map (λ c. was_seen (marks_at before doc c.id) c) cs)) (sym (shown_then before more doc h))
    ∙ applied_steps (λ c. is_shown before doc c) (λ c. is_shown now doc c) (λ c. marks_at before doc c.id) (λ c. marks_at now doc c.id) (walk now doc)
    ∙ ap (λ cs. map (λ c. is_seen (is_shown before doc c) (marks_at now doc c.id) c) cs) (shown_now now doc)

-- what is shown now makes the spans of now
pub changes_spans : (before more : List Op) (doc : ℕ) → IsOrderly (before ++ more) doc
    → as_spans (applied (changes before (before ++ more) doc) (shown before doc)) ≡ spans (before ++ more) doc
changes_spans before more doc h = ap as_spans (changes_applied before more doc h) ∙ shown_spans before (before ++ more) doc h

-- the steps take all of what was shown
pub changes_taken : (before more : List Op) (doc : ℕ) → IsOrderly (before ++ more) doc
    → taken (changes before (before ++ more) doc) ≡ length (visible before doc)
changes_taken before more doc h =
    let now : List Op = before ++ more in
    steps_taken (λ c. is_shown before doc c) (λ c. is_shown now doc c) (λ c. marks_at before doc c.id) (λ c. marks_at now doc c.id) (walk now doc)
    ∙ ap length (shown_then before more doc h)

-- and give all of what is shown
pub changes_given : (before after : List Op) (doc : ℕ) → given (changes before after doc) ≡ length (visible after doc)
changes_given before after doc =
    steps_given (λ c. is_shown before doc c) (λ c. is_shown after doc c) (λ c. marks_at before doc c.id) (λ c. marks_at after doc c.id) (walk after doc)
    ∙ ap length (shown_now after doc)

pub changes_joined : (before after : List Op) (doc : ℕ) → AreJoined (changes before after doc)
changes_joined before after doc =
    steps_joined (λ c. is_shown before doc c) (λ c. is_shown after doc c) (λ c. marks_at before doc c.id) (λ c. marks_at after doc c.id) (walk after doc)

pub changes_some : (before after : List Op) (doc : ℕ) → AreSome (changes before after doc)
changes_some before after doc =
    steps_some (λ c. is_shown before doc c) (λ c. is_shown after doc c) (λ c. marks_at before doc c.id) (λ c. marks_at after doc c.id) (walk after doc)

-- where nothing came all is kept
pub nothing_changed : (ops : List Op) (doc : ℕ) → changes ops ops doc ≡ all_kept (length (visible ops doc))
nothing_changed ops doc =
    steps_unchanged (λ c. is_shown ops doc c) (λ c. marks_at ops doc c.id) (walk ops doc)
    ∙ ap (λ cs. all_kept (length cs)) (shown_now ops doc)
