use Rattle.std.proofs.Common.{◌≡◌, ◌∙◌, inl, inr, refl, subst, sym}
use Rattle.op_model.specs.Records.{stream_length}
use Rattle.op_model.specs.Waiting.{change_length}
use Rattle.hub_parts.specs.Adding.{Adds}
use Rattle.hub_parts.proofs.TypedWaits.{made_typed, on_both, singles_add}
use Rattle.hub_parts.proofs.waiting.put_change.Goals as goal

pub put_text-requires-clause-typed : goal.put_text-requires-clause-typed
put_text-requires-clause-typed c =
    rw c.as_slice.ensures.same
    (made_typed c.args.made.now c.requires.made.0 c.requires.made.1 c.requires.made.2 c.in-Insert.at c.in-Insert.text c.requires.made.3
    (c.requires.made.4 ∙ c.in-Insert.is) (rw c.requires.made.4 c.requires.small) c.as_slice.ensures.some c.all_fit.ensures)

pub returns-in-Delete-clause-ok : goal.returns-in-Delete-clause-ok
returns-in-Delete-clause-ok c =
    let ops = c.args.made.now in
    let single : change_length c.args.change.now ops ≡ stream_length ops = elim c.in-Delete.is [
      | inl it ↦ rw it.2 refl
      | inr it ↦ elim it [ inl it ↦ rw it.3 refl | inr it ↦ rw it.3 refl ]
    ] in
    on_both c.put_ops.result _ _ _ c.put_ops.ensures.ok c.put_ops.ensures.fits
    (λ put fits. subst (λ n. Adds c.args.waiting.now.items c.put_ops.new.out.items ops n) (sym single)
    (singles_add ops c.args.waiting.now.items c.put_ops.new.out.items fits put))
