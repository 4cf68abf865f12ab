use Rattle.std.proofs.Common.{◌≡◌, length, arith, ap, sym, ◌∙◌}
use Rattle.replica_core.specs.Merging.{after_merge}
use Rattle.replica_core.specs.declared.merged.Merged.TheVariants.{Applied}
use Rattle.shared_hub.specs.Books.{ends_of}
use Rattle.shared_hub.proofs.BookLemmas.{few_ends}
use Rattle.shared_hub.proofs.MomentLemmas.{books_merged}
use Rattle.shared_hub.proofs.guarded.Guarded.enter_merge.Goals as goal

-- there are fewer entries than kept steps
pub add-requires : goal.add-requires
add-requires g c = record {
  few = omega (arith, ap length c.requires.mine, few_ends c.args.pass.now.number c.args.self.now.locked.replica.steps, c.requires.sound.sound.places);
}

-- the new length is entered
pub invariant_of-self : goal.invariant_of-self
invariant_of-self g c =
    let l = c.self.inside.locked in
    let p = c.args.pass.now in
    let mine = c.requires.mine ∙ ap (λ held. ends_of p.number held.locked.replica.steps) (sym c.self.view_is) in
    let made = c.in-Ok-Applied.ensures.made
    ∙ ap (λ m. record l { replica = after_merge m l.replica c.number.result c.args.op }) c.in-Ok-Applied.field-0-is
    ∙ ap (λ k. record l { replica = after_merge Applied l.replica k c.args.op }) c.number.ensures in
    let ends = c.len-end.ensures ∙ ap length c.list.ensures.list in
    rw c.add.ensures.books
    (books_merged l c.merge.new.self c.self.inside.books p c.args.op c.len-end.result c.self.invariant mine made ends c.in-Ok-Applied.ensures.fits)

-- where nothing is applied, all is as it was
pub invariant_of-self-in-Ok-Known : goal.invariant_of-self-in-Ok-Known
invariant_of-self-in-Ok-Known g c =
    let l = c.self.inside.locked in
    let same : c.merge.new.self ≡ l = c.in-Ok-Known.ensures.made
    ∙ ap (λ m. record l { replica = after_merge m l.replica c.number.result c.args.op }) c.in-Ok-Known.field-0-is in
    rw same c.self.invariant

pub invariant_of-self-in-Ok-Early : goal.invariant_of-self-in-Ok-Early
invariant_of-self-in-Ok-Early g c =
    let l = c.self.inside.locked in
    let same : c.merge.new.self ≡ l = c.in-Ok-Early.ensures.made
    ∙ ap (λ m. record l { replica = after_merge m l.replica c.number.result c.args.op }) c.in-Ok-Early.field-0-is in
    rw same c.self.invariant
