-- Lists of the same makers with equal clocks have the same operations.
use Rattle.std.proofs.Common.{◌≡◌, ℕ, Bool, true, inl, inr, List, [], ◌∷◌, length, take, filter, ap, refl, ◌∙◌, sym}
use Rattle.std.specs.Prelude.{◌==◌}
use Rattle.std.proofs.lemmas.Bool.{cases_Bool, eq-eqb}
use Rattle.op_ids.specs.Clock.{count_of}
use Rattle.op_model.specs.declared.op.Op.{Op}
use Rattle.op_model.specs.Causality.{clock_of, made_by, HasOp, HaveSameOps}
use Rattle.model_laws.specs.Histories.{HaveOneHistory}
use Rattle.model_laws.proofs.Ready.{count_made}

has_made : (ops : List Op) (p : Op → Bool) (op : Op) → HasOp ops op → p op ≡ true → HasOp (filter p ops) op
has_made [] p op h e = absurd h
has_made (x ∷ ops) p op (inl f) e = let g : p x ≡ true = ap p f ∙ e in rw g (inl f)
has_made (x ∷ ops) p op (inr h) e =
    elim (cases_Bool (p x)) [
      | inl g ↦ rw g (inr (has_made ops p op h e))
      | inr g ↦ rw g (has_made ops p op h e)
    ]

made_has : (ops : List Op) (p : Op → Bool) (op : Op) → HasOp (filter p ops) op → HasOp ops op
made_has [] p op h = h
made_has (x ∷ ops) p op h =
    elim (cases_Bool (p x)) [
      | inl g ↦ elim (rw g at h) [ inl f ↦ inl f | inr k ↦ inr (made_has ops p op k) ]
      | inr g ↦ inr (made_has ops p op (rw g at h))
    ]

same_made : (a b : List Op) (replica : ℕ) → HaveOneHistory a b → clock_of a ≡ clock_of b
    → made_by replica a ≡ made_by replica b
same_made a b replica h e =
    let (history, f, g) = h replica in
    let n : length (made_by replica a) ≡ length (made_by replica b) = sym (count_made a replica) ∙ ap (λ es. count_of es replica) e ∙ count_made b replica in
    f ∙ ap (λ k. take k history) n ∙ sym g

has_too : (a b : List Op) → HaveOneHistory a b → clock_of a ≡ clock_of b → (op : Op) → HasOp a op → HasOp b op
has_too a b h e op k =
    made_has b (λ o. o.id.replica == op.id.replica) op
    (rw (same_made a b op.id.replica h e) at (has_made a (λ o. o.id.replica == op.id.replica) op k (eq-eqb op.id.replica op.id.replica refl)))

turned : (a b : List Op) → HaveOneHistory a b → HaveOneHistory b a
turned a b h replica = let (history, f, g) = h replica in (history, g, f)

pub equal_clocks : (a b : List Op) → HaveOneHistory a b → clock_of a ≡ clock_of b → HaveSameOps a b
equal_clocks a b h e = record { no_more = has_too a b h e; no_fewer = has_too b a (turned a b h) (sym e) }
