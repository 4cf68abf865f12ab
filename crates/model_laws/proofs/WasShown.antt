-- What was shown before, by what is known now and by the operations that came since.
use Rattle.std.proofs.Common.{◌≡◌, ℕ, Bool, true, false, not, ◌&&◌, ◌||◌, inl, inr, List, [], ◌∷◌, ◌++◌, ap, refl, ◌∙◌, sym}
use Rattle.std.specs.Prelude.{◌==◌}
use Rattle.std.specs.List.{list_any}
use Rattle.std.proofs.lemmas.Bool.{cases_Bool, both_ways, or_left, or_from, and_parts, eqb-true}
use Rattle.std.proofs.lemmas.List.Folds.{list_any-append}
use Rattle.op_ids.specs.Id.{Id, is_same}
use Rattle.op_model.specs.declared.op.Op.{Op}
use Rattle.op_model.specs.declared.character.Character.{Character}
use Rattle.op_model.specs.Characters.{characters}
use Rattle.op_model.specs.Causality.{is_insert}
use Rattle.op_model.specs.Walk.{walk}
use Rattle.op_model.specs.Text.{is_removed}
use Rattle.op_model.specs.Placing.{has_id, has_op_id, FitInTurn, IsOrderly}
use Rattle.op_model.specs.Changes.{is_shown}
use Rattle.model_laws.specs.Since.{removes, is_removed_first, was_shown}
use Rattle.model_laws.proofs.Ids.{same_equal}
use Rattle.model_laws.proofs.Ops.{lacks-characters}
use Rattle.model_laws.proofs.Closed.{is_insert_at, insert_found}
use Rattle.model_laws.proofs.Ready.{found_insert}
use Rattle.model_laws.proofs.Member.{present_counted}
use Rattle.model_laws.proofs.Family.{orderly_members}
use Rattle.model_laws.proofs.Growth.{orderly_front, removed-push}
use Rattle.model_laws.proofs.Grown.{counted_there}
use Rattle.model_laws.proofs.LaterWalk.{lacks-below, orderly_rest}

-- the walk has the characters of the document
pub walk_has : (ops : List Op) (doc : ℕ) (id : Id) → IsOrderly ops doc → has_id (walk ops doc) id ≡ has_id (characters ops doc) id
walk_has ops doc id h =
    elim (cases_Bool (has_id (characters ops doc) id)) [
      | inl e ↦ counted_there (walk ops doc) id (rw (orderly_members ops doc id h) (present_counted (characters ops doc) id e)) ∙ sym e
      | inr e ↦ lacks-below _ (characters ops doc) id e ∙ sym e
    ]

-- a character of the document is one that an insert put there
characters_have : (ops : List Op) (doc : ℕ) (id : Id) → has_id (characters ops doc) id ≡ list_any (is_insert_at doc id) ops
characters_have ops doc id =
    elim (cases_Bool (list_any (is_insert_at doc id) ops)) [
      | inl e ↦ insert_found ops doc id e ∙ sym e
      | inr e ↦ elim (cases_Bool (has_id (characters ops doc) id)) [
        | inl f ↦ absurd (both_ways (list_any (is_insert_at doc id) ops) e (found_insert ops doc id f))
        | inr f ↦ f ∙ sym e
      ]
    ]

-- the characters of two lists of operations are those of the one and those of the other
pub characters_of_both : (a b : List Op) (doc : ℕ) (id : Id)
    → has_id (characters (a ++ b) doc) id ≡ (has_id (characters a doc) id || has_id (characters b doc) id)
characters_of_both a b doc id =
    characters_have (a ++ b) doc id
    ∙ list_any-append (is_insert_at doc id) a b
    ∙ ap (λ r. r || list_any (is_insert_at doc id) b) (sym (characters_have a doc id))
    ∙ ap (λ r. has_id (characters a doc) id || r) (sym (characters_have b doc id))

-- an id that is used isn't inserted again
not_again : (before more : List Op) (doc : ℕ) (id : Id) → FitInTurn before doc more → has_op_id before doc id ≡ true
    → list_any (is_insert_at doc id) more ≡ false
not_again before [] doc id f e = refl
not_again before (op ∷ more) doc id f e =
    or_from (is_insert_at doc id op) (list_any (is_insert_at doc id) more)
    (elim (cases_Bool (is_insert_at doc id op)) [
      | inl g ↦
          let a = (and_parts (is_same op.id id && op.doc == doc) (is_insert op.body) g).0 in
          let b = and_parts (is_same op.id id) (op.doc == doc) a in
          absurd (both_ways (has_op_id before doc op.id) (f.0 (eqb-true op.doc doc b.1)).fresh (ap (λ i. has_op_id before doc i) (same_equal op.id id b.0) ∙ e))
      | inr g ↦ g
    ])
    (not_again (before ++ op ∷ []) more doc id f.1
    (list_any-append (λ o. o.doc == doc && is_same o.id id) before (op ∷ []) ∙ or_left (has_op_id before doc id) (has_op_id (op ∷ []) doc id) e))

-- a character of before has an id that is used
used : (ops : List Op) (doc : ℕ) (id : Id) → has_id (characters ops doc) id ≡ true → has_op_id ops doc id ≡ true
used ops doc id e =
    elim (cases_Bool (has_op_id ops doc id)) [
      | inl f ↦ f
      | inr f ↦ absurd (both_ways (has_id (characters ops doc) id) (lacks-characters ops doc id f) e)
    ]

other_one : (a b : Bool) → (a || b) ≡ true → (a ≡ true → b ≡ false) → a ≡ not b
other_one true true e f = absurd (both_ways true (f refl) refl)
other_one true false e f = refl
other_one false true e f = refl
other_one false false e f = absurd (both_ways false refl e)

-- of the characters of now those were there before that weren't inserted since
pub was_there : (before more : List Op) (doc : ℕ) (id : Id) → IsOrderly (before ++ more) doc
    → has_id (walk (before ++ more) doc) id ≡ true → has_id (walk before doc) id ≡ not (has_id (characters more doc) id)
was_there before more doc id h e =
    walk_has before doc id (orderly_front before more doc h)
    ∙ other_one (has_id (characters before doc) id) (has_id (characters more doc) id)
    (sym (characters_of_both before more doc id) ∙ sym (walk_has (before ++ more) doc id h) ∙ e)
    (λ f. characters_have more doc id ∙ not_again before more doc id (orderly_rest before more doc h) (used before doc id f))

first_or_later : (r b m : Bool) → ((r && not b) || (not (b || r) && m)) ≡ (not b && (r || m))
first_or_later true true m = refl
first_or_later true false m = refl
first_or_later false true m = refl
first_or_later false false m = refl

-- a remove is the first where the character wasn't removed before
pub removed_first : (before more : List Op) (doc : ℕ) (c : Character)
    → is_removed_first before more doc c ≡ (not (is_removed before doc c) && is_removed more doc c)
removed_first before [] doc c = elim (cases_Bool (is_removed before doc c)) [ inl e ↦ rw e refl | inr e ↦ rw e refl ]
removed_first before (op ∷ more) doc c =
    ap (λ r. (removes doc c op && not (is_removed before doc c)) || r) (removed_first (before ++ op ∷ []) more doc c)
    ∙ ap (λ r. (removes doc c op && not (is_removed before doc c)) || (not r && is_removed more doc c)) (removed-push before doc op c)
    ∙ first_or_later (removes doc c op) (is_removed before doc c) (is_removed more doc c)

shown_by : (b m : Bool) → not b ≡ (not (b || m) || (not b && m))
shown_by true m = refl
shown_by false true = refl
shown_by false false = refl

-- a character of now was shown if it wasn't inserted since, and isn't removed or a remove since was the first
pub shown_then_by : (before more : List Op) (doc : ℕ) (c : Character) → IsOrderly (before ++ more) doc
    → has_id (walk (before ++ more) doc) c.id ≡ true
    → is_shown before doc c ≡ was_shown before more doc c
shown_then_by before more doc c h e =
    ap (λ r. r && not (is_removed before doc c)) (was_there before more doc c.id h e)
    ∙ ap (λ r. not (has_id (characters more doc) c.id) && r)
    (shown_by (is_removed before doc c) (is_removed more doc c)
    ∙ ap (λ r. not r || (not (is_removed before doc c) && is_removed more doc c)) (sym (list_any-append (removes doc c) before more))
    ∙ ap (λ r. not (is_removed (before ++ more) doc c) || r) (sym (removed_first before more doc c)))
