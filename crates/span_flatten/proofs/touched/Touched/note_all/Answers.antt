use Rattle.std.proofs.Common.{◌≡◌, ◌+◌, ◌||◌, true, inl, inr, [], ◌∷◌, ◌++◌, take, get_or, ap, sym, ◌∙◌}
use Rattle.std.specs.BTreeMap.{is_at}
use Rattle.std.specs.List.{list_any}
use Rattle.std.proofs.lemmas.Bool.{cases_Bool}
use Rattle.std.proofs.lemmas.List.{take_more}
use Rattle.std.proofs.lemmas.List.Folds.{list_any-append}
use Rattle.op_ids.proofs.IdLemmas.{same_from_test}
use Rattle.char_sequence.specs.Cells.{has_cell}
use Rattle.model_laws.proofs.Growth.{or-false}
use Rattle.span_flatten.specs.Ranking.{id_order}
use Rattle.span_flatten.proofs.SinceLemmas.{at_id}
use Rattle.span_flatten.proofs.touched.Touched.note_all.Goals as goal

pub loop-id-preserved : goal.loop-id-preserved
loop-id-preserved c = record {
  noted = λ id among once i there.
      let items = c.deref-id-items.result.now in
      let k = c.loop-id.id-index in
      let item = c.id-item.result in
      let split : take (k + 1) items ≡ take k items ++ item ∷ [] =
      take_more items k item c.loop-id-test.true ∙ ap (λ d. take k items ++ d ∷ []) (sym c.id-item.is) in
      let either : (list_any (is_at (id_order id)) (take k items) || is_at (id_order id) item) ≡ true =
      ap (λ b. list_any (is_at (id_order id)) (take k items) || b) (sym (or-false (is_at (id_order id) item)))
      ∙ sym (list_any-append (is_at (id_order id)) (take k items) (item ∷ []))
      ∙ ap (list_any (is_at (id_order id))) (sym split) ∙ among in
      elim (cases_Bool (list_any (is_at (id_order id)) (take k items))) [
        | inl e ↦ c.in_ok-note.ensures.kept i (c.loop-id.invariant.noted id e once i there)
        | inr e ↦
            let it : is_at (id_order id) item ≡ true = ap (λ b. b || is_at (id_order id) item) (sym e) ∙ either in
            let same = same_from_test id item (sym (at_id id item) ∙ it) in
            c.in_ok-note.ensures.noted once i (ap (λ x. has_cell (get_or c.args.sequence.now i []) x) (sym same) ∙ there)
      ];
  kept = λ i was. c.in_ok-note.ensures.kept i (c.loop-id.invariant.kept i was);
}
