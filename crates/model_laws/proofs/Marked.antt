-- What causally closed lists with the same operations have in common: walk, text, number of operations, spans.
use Rattle.std.proofs.Common.{◌≡◌, ℕ, ◌+◌, Bool, true, false, not, cond, ◌||◌, ◌&&◌, List, map, filter, None, arith, ap, refl, ◌∙◌}
use Rattle.std.specs.Prelude.{◌==◌, is_some, option_and_then}
use Rattle.std.proofs.lemmas.List.Elements.{filter_agree}
use Rattle.std.proofs.lemmas.List.Sums.{sum_by-cons}
use Rattle.op_model.specs.declared.op.Op.{Op}
use Rattle.op_model.specs.declared.character.Character.{Character}
use Rattle.op_model.specs.Characters.{character_in, with_character, characters}
use Rattle.op_model.specs.Walk.{walk, below}
use Rattle.op_model.specs.Text.{is_removed, is_removal_of, visible, text, rev}
use Rattle.op_model.specs.Causality.{HaveSameOps, IsCausallyClosed}
use Rattle.op_model.specs.declared.marking.Marking.{Marking}
use Rattle.op_model.specs.declared.mark.MarkKey.{MarkKey}
use Rattle.op_model.specs.declared.mark.MarkKey.TheVariants as key
use Rattle.op_model.specs.Marks.{markings, is_key}
use Rattle.op_model.specs.Places.{covers}
use Rattle.op_model.specs.Spans.{deciding, url_of, comment_ids, marks_of, runs, spans}
use Rattle.model_laws.proofs.Deciding.{greatest_step, greatest_more, greatest_swapped, comments_step, comments_more, comments_swapped}
use Rattle.model_laws.proofs.Runs.{runs_agree}
use Rattle.model_laws.proofs.Ops.{swapped_in}
use Rattle.model_laws.proofs.Same.{same_for_closed}

or_swapped : (a b c : Bool) → (a || (b || c)) ≡ (b || (a || c))
or_swapped true true c = refl
or_swapped true false c = refl
or_swapped false true c = refl
or_swapped false false c = refl

marks_agree : (cs : List Character) (ms ns : List Marking) (k : ℕ)
    → ((key : MarkKey) → deciding cs ms k key ≡ deciding cs ns k key) → comment_ids ms ≡ comment_ids ns
    → marks_of cs ms k ≡ marks_of cs ns k
marks_agree cs ms ns k h e = λ i. record {
  strong = is_some (option_and_then (λ m. m.mark) (h key.Strong i));
  em = is_some (option_and_then (λ m. m.mark) (h key.Em i));
  link = option_and_then url_of (option_and_then (λ m. m.mark) (h key.Link i));
  comments = filter (λ id. is_some (option_and_then (λ m. m.mark) (h (key.Comment id) i))) (e i);
}

module _ (a b : List Op) (closed : IsCausallyClosed a) (too : IsCausallyClosed b) (same : HaveSameOps a b) (doc : ℕ) where
  pub same_characters : characters a doc ≡ characters b doc
  same_characters = same_for_closed (λ ops. characters ops doc) (λ op cs. with_character (character_in doc op) cs) (λ x xs. refl) (λ x y z d. swapped_in doc x y z d) a b closed too same

  pub same_walk : walk a doc ≡ walk b doc
  same_walk = ap (λ cs. below None cs) same_characters

  pub same_removed : (c : Character) → is_removed a doc c ≡ is_removed b doc c
  same_removed c = same_for_closed (λ ops. is_removed ops doc c) (λ op r. (op.doc == doc && is_removal_of c.id op.body) || r) (λ x xs. refl)
      (λ x y z d. or_swapped (x.doc == doc && is_removal_of c.id x.body) (y.doc == doc && is_removal_of c.id y.body) z) a b closed too same

  pub same_visible : visible a doc ≡ visible b doc
  same_visible =
      ap (λ cs. filter (λ c. not (is_removed a doc c)) cs) same_walk
      ∙ filter_agree (λ c. not (is_removed a doc c)) (λ c. not (is_removed b doc c)) (λ c. ap not (same_removed c)) (walk b doc)

  pub same_text : text a doc ≡ text b doc
  same_text = ap (λ cs. map (λ c. c.value) cs) same_visible

  pub same_rev : rev a doc ≡ rev b doc
  same_rev = same_for_closed (λ ops. rev ops doc) (λ op n. cond (op.doc == doc) 1 0 + n) (λ x xs. sum_by-cons (λ op. cond (op.doc == doc) 1 0) x xs)
      (λ x y z d. omega arith) a b closed too same

  same_deciding : (cs : List Character) (k : ℕ) (key : MarkKey)
      → deciding cs (markings a doc) k key ≡ deciding cs (markings b doc) k key
  same_deciding cs k key = same_for_closed (λ ops. deciding cs (markings ops doc) k key) (greatest_step (λ m. is_key m.key key && covers cs k m) doc)
      (λ x xs. greatest_more (λ m. is_key m.key key && covers cs k m) doc x xs) (λ x y z d. greatest_swapped (λ m. is_key m.key key && covers cs k m) doc x y z d) a b closed too same

  same_comment_ids : comment_ids (markings a doc) ≡ comment_ids (markings b doc)
  same_comment_ids = same_for_closed (λ ops. comment_ids (markings ops doc)) (comments_step doc)
      (λ x xs. comments_more doc x xs) (λ x y z d. comments_swapped doc x y z) a b closed too same

  pub same_marks : (cs : List Character) (k : ℕ) → marks_of cs (markings a doc) k ≡ marks_of cs (markings b doc) k
  same_marks cs k = marks_agree cs (markings a doc) (markings b doc) k (same_deciding cs k) same_comment_ids

  pub same_spans : spans a doc ≡ spans b doc
  same_spans =
      ap (λ cs. runs (is_removed a doc) (marks_of cs (markings a doc)) 0 cs) same_walk
      ∙ runs_agree (is_removed a doc) (is_removed b doc) (marks_of (walk b doc) (markings a doc)) (marks_of (walk b doc) (markings b doc)) same_removed (same_marks (walk b doc)) 0 (walk b doc)
