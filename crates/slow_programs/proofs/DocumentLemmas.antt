-- The documents of operations, from the last one to the first.
use Rattle.std.proofs.Common.{◌≡◌, ℕ, suc, ◌<◌, List, ◌∷◌, ◌++◌, length, drop, get_or, sym, ap, ◌∙◌}
use Rattle.std.proofs.Math.Seq.{drop-cons}
use Rattle.op_model.specs.declared.op.Op.{Op}
use Rattle.op_model.specs.Causality.{documents}
use Rattle.op_model.specs.Spans.{with_number}

-- the documents with one operation more in front
pub documents_before : (ops behind : List Op) (at i : ℕ) (op : Op) (old new : List ℕ) → suc at ≡ i → at < length ops
    → new ≡ with_number (get_or ops at op).doc old → old ≡ documents (drop i ops ++ behind) → new ≡ documents (drop at ops ++ behind)
documents_before ops behind at i op old new next within put is =
    let first = get_or ops at op in
    let item : drop at ops ≡ first ∷ drop i ops = drop-cons ops at op within ∙ ap (λ n. first ∷ drop n ops) next in
    put ∙ ap (with_number first.doc) is ∙ sym (ap (λ xs. documents (xs ++ behind)) item)
