-- What changed in a document goes by its own operations, and by how many of them there were before.
use Rattle.std.proofs.Common.{◌≡◌, ℕ, not, ◌&&◌, ◌||◌, inl, inr, List, [], ◌∷◌, ◌++◌, length, take, filter_map, Option, None, ap, refl, ◌∙◌, sym}
use Rattle.std.proofs.Common.{append-nil}
use Rattle.std.specs.Prelude.{◌==◌}
use Rattle.std.proofs.lemmas.Bool.{cases_Bool}
use Rattle.std.proofs.lemmas.List.{take_at}
use Rattle.std.proofs.lemmas.List.Elements.{filter-append}
use Rattle.std.proofs.lemmas.List.Sums.{length-filter}
use Rattle.op_ids.specs.Id.{Id}
use Rattle.op_model.specs.declared.op.Op.{Op}
use Rattle.op_model.specs.declared.character.Character.{Character}
use Rattle.op_model.specs.declared.change_step.ChangeStep.{ChangeStep}
use Rattle.op_model.specs.Characters.{with_character, character_of, characters}
use Rattle.op_model.specs.Walk.{walk, below}
use Rattle.op_model.specs.Text.{is_removed, is_removal_of, visible, rev}
use Rattle.op_model.specs.Marks.{marking_of, markings}
use Rattle.op_model.specs.Places.{index_of}
use Rattle.op_model.specs.Spans.{marks_of}
use Rattle.op_model.specs.Placing.{has_id}
use Rattle.op_model.specs.Changes.{is_shown, marks_at, became, step_of, with_any_step, steps, changes}
use Rattle.model_laws.specs.Since.{of_doc, all_kept}
use Rattle.model_laws.proofs.Told.{nothing_changed}

characters_of_doc : (ops : List Op) (doc : ℕ) → characters ops doc ≡ characters (of_doc doc ops) doc
characters_of_doc [] doc = refl
characters_of_doc (op ∷ ops) doc =
    elim (cases_Bool (op.doc == doc)) [
      | inl d ↦ rw d (rw d (ap (λ cs. with_character (character_of op.id op.body) cs) (characters_of_doc ops doc)))
      | inr d ↦ rw d (characters_of_doc ops doc)
    ]

removed_of_doc : (ops : List Op) (doc : ℕ) (c : Character) → is_removed ops doc c ≡ is_removed (of_doc doc ops) doc c
removed_of_doc [] doc c = refl
removed_of_doc (op ∷ ops) doc c =
    elim (cases_Bool (op.doc == doc)) [
      | inl d ↦ rw d (rw d (ap (λ r. is_removal_of c.id op.body || r) (removed_of_doc ops doc c)))
      | inr d ↦ rw d (removed_of_doc ops doc c)
    ]

of_doc_twice : (ops : List Op) (doc : ℕ) → of_doc doc ops ≡ of_doc doc (of_doc doc ops)
of_doc_twice [] doc = refl
of_doc_twice (op ∷ ops) doc =
    elim (cases_Bool (op.doc == doc)) [
      | inl d ↦ rw d (rw d (ap (λ xs. op ∷ xs) (of_doc_twice ops doc)))
      | inr d ↦ rw d (of_doc_twice ops doc)
    ]

markings_of_doc : (ops : List Op) (doc : ℕ) → markings ops doc ≡ markings (of_doc doc ops) doc
markings_of_doc ops doc = ap (λ xs. filter_map (λ op. marking_of op.id op.body) xs) (of_doc_twice ops doc)

walk_of_doc : (ops : List Op) (doc : ℕ) → walk ops doc ≡ walk (of_doc doc ops) doc
walk_of_doc ops doc = ap (λ cs. below None cs) (characters_of_doc ops doc)

shown_of_doc : (ops : List Op) (doc : ℕ) (c : Character) → is_shown ops doc c ≡ is_shown (of_doc doc ops) doc c
shown_of_doc ops doc c = λ i. has_id (walk_of_doc ops doc i) c.id && not (removed_of_doc ops doc c i)

marks_of_doc : (ops : List Op) (doc : ℕ) (id : Id) → marks_at ops doc id ≡ marks_at (of_doc doc ops) doc id
marks_of_doc ops doc id = λ i. marks_of (walk_of_doc ops doc i) (markings_of_doc ops doc i) (index_of id (walk_of_doc ops doc i))

step_of_doc : (before after : List Op) (doc : ℕ) (c : Character)
    → step_of before after doc c ≡ step_of (of_doc doc before) (of_doc doc after) doc c
step_of_doc before after doc c = λ i. became (shown_of_doc before doc c i) (shown_of_doc after doc c i)
    (marks_of_doc before doc c.id i) (marks_of_doc after doc c.id i) c.value

pub steps_agree : (f g : Character → Option ChangeStep) → ((c : Character) → f c ≡ g c) → (cs : List Character) → steps f cs ≡ steps g cs
steps_agree f g same [] = refl
steps_agree f g same (c ∷ cs) = λ i. with_any_step (same c i) (steps_agree f g same cs i)

-- operations of other documents don't matter
pub changes_of_doc : (before after : List Op) (doc : ℕ) → changes before after doc ≡ changes (of_doc doc before) (of_doc doc after) doc
changes_of_doc before after doc =
    steps_agree (step_of before after doc) (step_of (of_doc doc before) (of_doc doc after) doc) (step_of_doc before after doc) (walk after doc)
    ∙ ap (λ cs. steps (step_of (of_doc doc before) (of_doc doc after) doc) cs) (walk_of_doc after doc)

first_of_doc : (before more : List Op) (doc : ℕ) → take (rev before doc) (of_doc doc (before ++ more)) ≡ of_doc doc before
first_of_doc before more doc =
    ap (λ xs. take (rev before doc) xs) (filter-append (λ op. op.doc == doc) before more)
    ∙ take_at (of_doc doc before) (of_doc doc more) (rev before doc) (length-filter (λ op. op.doc == doc) before)

-- of two beginnings of a list with as many operations of the document those are the same
same_of_doc : (before more other rest : List Op) (doc : ℕ) → before ++ more ≡ other ++ rest → rev before doc ≡ rev other doc
    → of_doc doc before ≡ of_doc doc other
same_of_doc before more other rest doc e f =
    sym (first_of_doc before more doc)
    ∙ ap (λ n. take n (of_doc doc (before ++ more))) f
    ∙ ap (λ xs. take (rev other doc) (of_doc doc xs)) e
    ∙ first_of_doc other rest doc

-- how many operations of the document there were tells what changed since
pub changes_since_rev : (before more other rest after : List Op) (doc : ℕ) → before ++ more ≡ other ++ rest → rev before doc ≡ rev other doc
    → changes before after doc ≡ changes other after doc
changes_since_rev before more other rest after doc e f =
    changes_of_doc before after doc
    ∙ ap (λ xs. changes xs (of_doc doc after) doc) (same_of_doc before more other rest doc e f)
    ∙ sym (changes_of_doc other after doc)

-- where none came to the document all is kept
pub nothing_came : (before more : List Op) (doc : ℕ) → rev before doc ≡ rev (before ++ more) doc
    → changes before (before ++ more) doc ≡ all_kept (length (visible (before ++ more) doc))
nothing_came before more doc e =
    changes_since_rev before more (before ++ more) [] (before ++ more) doc (sym (append-nil (before ++ more))) e
    ∙ nothing_changed (before ++ more) doc
