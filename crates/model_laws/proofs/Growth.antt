-- Fronts of closed and orderly lists, one operation more, and operations of another document.
use Rattle.std.proofs.Common.{◌≡◌, ℕ, Bool, true, false, not, cond, ◌||◌, ◌&&◌, List, [], ◌∷◌, ◌++◌}
use Rattle.std.proofs.Common.{map, filter, None, arith, ap, refl, ◌∙◌, append_assoc, append-nil}
use Rattle.std.specs.Prelude.{◌==◌}
use Rattle.std.proofs.lemmas.List.Folds.{list_any-append}
use Rattle.std.proofs.lemmas.List.Elements.{filter_agree, filter-append, filter_map-append}
use Rattle.std.proofs.lemmas.List.Sums.{sum_by-append}
use Rattle.op_model.specs.declared.op.Op.{Op}
use Rattle.op_model.specs.declared.character.Character.{Character}
use Rattle.op_model.specs.Walk.{walk, below}
use Rattle.op_model.specs.Text.{is_removed, is_removal_of, visible, text, rev}
use Rattle.op_model.specs.Marks.{marking_of, markings}
use Rattle.op_model.specs.Spans.{marks_of, runs, spans}
use Rattle.op_model.specs.Causality.{MayFollow, FollowInTurn, IsCausallyClosed}
use Rattle.op_model.specs.Placing.{Fits, FitInTurn, IsOrderly}
use Rattle.model_laws.proofs.Ops.{characters-push_other}
use Rattle.model_laws.proofs.Runs.{runs_agree}

follow_front : (before ops more : List Op) → FollowInTurn before (ops ++ more) → FollowInTurn before ops
follow_front before [] more h = tt
follow_front before (op ∷ ops) more h = (h.0, follow_front (before ++ op ∷ []) ops more h.1)

follow_rest : (before ops more : List Op) → FollowInTurn before (ops ++ more) → FollowInTurn (before ++ ops) more
follow_rest before [] more h = rw append-nil h
follow_rest before (op ∷ ops) more h = rw append_assoc at (follow_rest (before ++ op ∷ []) ops more h.1)

pub follow_both : (before ops more : List Op) → FollowInTurn before ops → FollowInTurn (before ++ ops) more
    → FollowInTurn before (ops ++ more)
follow_both before [] more h k = rw append-nil at k
follow_both before (op ∷ ops) more h k = (h.0, follow_both (before ++ op ∷ []) ops more h.1 (rw append_assoc k))

pub closed_with : (ops more : List Op) → IsCausallyClosed ops → FollowInTurn ops more → IsCausallyClosed (ops ++ more)
closed_with ops more h k = follow_both [] ops more h k

pub closed_front : (ops more : List Op) → IsCausallyClosed (ops ++ more) → IsCausallyClosed ops
closed_front ops more h = follow_front [] ops more h

pub closed_rest : (ops more : List Op) → IsCausallyClosed (ops ++ more) → FollowInTurn ops more
closed_rest ops more h = follow_rest [] ops more h

pub closed_push : (ops : List Op) (op : Op) → IsCausallyClosed ops → MayFollow ops op
    → IsCausallyClosed (ops ++ op ∷ [])
closed_push ops op h k = closed_with ops (op ∷ []) h (k, tt)

fit_front : (before ops more : List Op) (doc : ℕ) → FitInTurn before doc (ops ++ more) → FitInTurn before doc ops
fit_front before [] more doc h = tt
fit_front before (op ∷ ops) more doc h = (h.0, fit_front (before ++ op ∷ []) ops more doc h.1)

pub fit_both : (before ops more : List Op) (doc : ℕ) → FitInTurn before doc ops → FitInTurn (before ++ ops) doc more
    → FitInTurn before doc (ops ++ more)
fit_both before [] more doc h k = rw append-nil at k
fit_both before (op ∷ ops) more doc h k = (h.0, fit_both (before ++ op ∷ []) ops more doc h.1 (rw append_assoc k))

pub orderly_front : (ops more : List Op) (doc : ℕ) → IsOrderly (ops ++ more) doc → IsOrderly ops doc
orderly_front ops more doc h = fit_front [] ops more doc h

pub orderly_push : (ops : List Op) (doc : ℕ) (op : Op) → IsOrderly ops doc → (op.doc ≡ doc → Fits ops doc op)
    → IsOrderly (ops ++ op ∷ []) doc
orderly_push ops doc op h k = fit_both [] ops (op ∷ []) doc h (k, tt)

pub or-false : (r : Bool) → (r || false) ≡ r
or-false true = refl
or-false false = refl

-- an operation more removes what it names, and else nothing
pub removed-push : (ops : List Op) (doc : ℕ) (op : Op) (c : Character)
    → is_removed (ops ++ op ∷ []) doc c ≡ (is_removed ops doc c || (op.doc == doc && is_removal_of c.id op.body))
removed-push ops doc op c =
    list_any-append (λ o. o.doc == doc && is_removal_of c.id o.body) ops (op ∷ [])
    ∙ ap (λ r. is_removed ops doc c || r) (or-false (op.doc == doc && is_removal_of c.id op.body))

pub markings-append : (a b : List Op) (doc : ℕ) → markings (a ++ b) doc ≡ markings a doc ++ markings b doc
markings-append a b doc = rw (filter-append (λ op. op.doc == doc) a b) (filter_map-append (λ op. marking_of op.id op.body) (filter (λ op. op.doc == doc) a) (filter (λ op. op.doc == doc) b))

module _ (ops : List Op) (doc : ℕ) (op : Op) (other : (op.doc == doc) ≡ false) where
  pub other_walk : walk (ops ++ op ∷ []) doc ≡ walk ops doc
  other_walk = ap (λ cs. below None cs) (characters-push_other ops op doc other)

  other_removed : (c : Character) → is_removed (ops ++ op ∷ []) doc c ≡ is_removed ops doc c
  other_removed c = removed-push ops doc op c ∙ rw other (or-false (is_removed ops doc c))

  pub other_visible : visible (ops ++ op ∷ []) doc ≡ visible ops doc
  other_visible =
      ap (λ cs. filter (λ c. not (is_removed (ops ++ op ∷ []) doc c)) cs) other_walk
      ∙ filter_agree (λ c. not (is_removed (ops ++ op ∷ []) doc c)) (λ c. not (is_removed ops doc c)) (λ c. ap not (other_removed c)) (walk ops doc)

  pub other_text : text (ops ++ op ∷ []) doc ≡ text ops doc
  other_text = ap (λ cs. map (λ c. c.value) cs) other_visible

  other_markings : markings (ops ++ op ∷ []) doc ≡ markings ops doc
  other_markings = markings-append ops (op ∷ []) doc ∙ rw other (append-nil (markings ops doc))

  pub other_spans : spans (ops ++ op ∷ []) doc ≡ spans ops doc
  other_spans =
      ap (λ cs. runs (is_removed (ops ++ op ∷ []) doc) (marks_of cs (markings (ops ++ op ∷ []) doc)) 0 cs) other_walk
      ∙ runs_agree (is_removed (ops ++ op ∷ []) doc) (is_removed ops doc) (marks_of (walk ops doc) (markings (ops ++ op ∷ []) doc)) (marks_of (walk ops doc) (markings ops doc))
      other_removed (λ k. ap (λ ms. marks_of (walk ops doc) ms k) other_markings) 0 (walk ops doc)

  pub other_rev : rev (ops ++ op ∷ []) doc ≡ rev ops doc
  other_rev = sum_by-append (λ o. cond (o.doc == doc) 1 0) ops (op ∷ []) ∙ rw other (omega arith)
