-- What a change that nothing refuses does to the text's length, the greatest counter, the clock and the documents. The list stays closed.
use Rattle.std.proofs.Common.{◌≡◌, ℕ, ◌+◌, ◌≤◌, true, List, ◌++◌, length, take, drop, None, arith, refl, ap, ◌∙◌, sym, length-append, length-drop}
use Rattle.std.proofs.lemmas.Bool.{leb-true}
use Rattle.std.proofs.lemmas.List.{length-map, length-take-le}
use Rattle.op_ids.specs.Clock.{advanced, advanced_by}
use Rattle.op_model.specs.declared.op.Op.{Op}
use Rattle.op_model.specs.declared.edit.Edit.{Edit}
use Rattle.op_model.specs.declared.edit.Change.{Change}
use Rattle.op_model.specs.declared.edit.Change.TheVariants as change
use Rattle.op_model.specs.Text.{visible, text}
use Rattle.op_model.specs.Causality.{clock_of, documents, IsCausallyClosed}
use Rattle.op_model.specs.Made.{edit_refusal, greatest_counter, is_inside, made, size_of}
use Rattle.op_model.specs.Actions.{length_after}
use Rattle.op_model.specs.Spans.{with_number}
use Rattle.model_laws.specs.Changed.{changed}
use Rattle.model_laws.proofs.Erased.{made_text}
use Rattle.model_laws.proofs.LimitsMade.{due_asks_right, due_within, length-made_inside, greatest-made, clock-made, replicas-made, with_document-made}
use Rattle.model_laws.proofs.Makes.{closed_made}

-- how long a text is with a change
pub length-changed : (text : List ℕ) (c : Change) → is_inside (length text) c ≡ true → length (changed text c) ≡ length_after (length text) c
length-changed text (change.Insert at added) inside =
    let there : at ≤ length text = leb-true at (length text) inside in
    let front = length-take-le at text there in
    let rest = length-drop at text in
    length-append (take at text ++ added) (drop at text) ∙ (rw (length-append (take at text) added) (omega (arith, front, rest, there)))
length-changed text (change.Delete at count) inside =
    let there : at + count.value ≤ length text = leb-true (at + count.value) (length text) inside in
    let front = length-take-le at text (omega (arith, there)) in
    let rest = length-drop (at + count.value) text in
    length-append (take at text) (drop (at + count.value) text) ∙ omega (arith, front, rest, there)
length-changed text (change.Mark from to mark) inside = refl
length-changed text (change.Unmark from to key) inside = refl

length-text : (ops : List Op) (doc : ℕ) → length (text ops doc) ≡ length (visible ops doc)
length-text ops doc = length-map (visible ops doc) (λ c. c.value)

module _ (ops : List Op) (replica : ℕ) (e : Edit) (closed : IsCausallyClosed ops) (due : edit_refusal ops replica e ≡ None) where
  -- it lies inside the text
  pub due_inside : is_inside (length (visible ops e.doc)) e.change ≡ true
  due_inside = (due_asks_right ops replica e due).inside

  -- the text is as long as the change says
  pub length-visible_made : length (visible (ops ++ made ops replica e) e.doc) ≡ length_after (length (visible ops e.doc)) e.change
  length-visible_made =
      let whole = length-text ops e.doc in
      let inside : is_inside (length (text ops e.doc)) e.change ≡ true = rw whole due_inside in
      sym (length-text (ops ++ made ops replica e) e.doc)
      ∙ (ap length (made_text ops replica e closed due_inside (due_within ops replica e due))
      ∙ (length-changed (text ops e.doc) e.change inside ∙ ap (λ n. length_after n e.change) whole))

  -- as many operations as the change makes
  pub length-due : length (made ops replica e) ≡ size_of e.change
  length-due = length-made_inside ops replica e due_inside

  -- the greatest counter rises by as many
  pub greatest-due : greatest_counter (ops ++ made ops replica e) ≡ greatest_counter ops + size_of e.change
  greatest-due = greatest-made ops replica e due_inside

  -- the clock counts as many more of the replica
  pub clock-due : clock_of (ops ++ made ops replica e) ≡ advanced_by (clock_of ops) replica (size_of e.change)
  clock-due = clock-made ops replica e due_inside

  -- with one more operation of the replica it counts as many replicas as before
  pub replicas-due : length (advanced (clock_of (ops ++ made ops replica e)) replica) ≡ length (advanced (clock_of ops) replica)
  replicas-due = replicas-made ops replica e due_inside

  -- the documents with that of the change are the same after it
  pub documents-due : with_number e.doc (documents (ops ++ made ops replica e)) ≡ with_number e.doc (documents ops)
  documents-due = with_document-made ops replica e

  -- the list stays closed
  pub closed-due : IsCausallyClosed (ops ++ made ops replica e)
  closed-due = closed_made ops replica e closed (due_within ops replica e due)
