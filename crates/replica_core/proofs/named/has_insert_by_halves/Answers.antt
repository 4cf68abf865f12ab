use Rattle.std.proofs.Common.{◌≡◌, ℕ, ◌<◌, ◌/◌, Bool, false, ◌∙◌, length, sym, arith, refl}
use Rattle.std.specs.Prelude.{◌==◌, ◌&&◌}
use Rattle.std.proofs.lemmas.Bool.Decides.{nat_tests}
use Rattle.op_ids.specs.Id.{is_same}
use Rattle.op_list.specs.declared.head.OpHead.{OpHead}
use Rattle.op_model.specs.Causality.{is_insert}
use Rattle.replica_core.proofs.ClimbLemmas.{insert_only, left_here, left_behind, left_before}
use Rattle.replica_core.proofs.named.has_insert_by_halves.Goals as goal

half : (n : ℕ) (empty : Bool) → empty ≡ (n == 0) → empty ≡ false → n / 2 < n
half n empty says some = let more : 0 < n = at_least n (sym says ∙ some) in omega arith
  where
    at_least : (m : ℕ) → (m == 0) ≡ false → 0 < m
    at_least m there = grind (arith, nat_tests)

pub loop-rest-init : goal.loop-rest-init
loop-rest-init c = record { left = record { decides = refl; below = c.requires.below; climb = c.requires.climb }; within = omega arith }

pub returns-then-counter-wanted : goal.returns-then-counter-wanted
returns-then-counter-wanted c =
    let q : OpHead → Bool = λ h. is_same h.id c.args.id.now && h.doc == c.args.doc && h.is_insert in
    c.is_insert_at.ensures
    ∙ sym (left_here q c.args.id.now.counter c.args.ops.now c.args.places.now c.loop-rest.rest.now (length c.loop-rest.rest.now / 2) c.head_at-head.result
    (insert_only c.args.id.now c.args.doc) c.loop-rest.invariant.left (half (length c.loop-rest.rest.now) c.is_empty.result c.is_empty.ensures c.loop-rest-test.true) c.head_at-head.ensures
    (omega arith))

pub loop-rest-preserved-then-counter-wanted-2 : goal.loop-rest-preserved-then-counter-wanted-2
loop-rest-preserved-then-counter-wanted-2 c = record {
  left = left_behind (λ op. is_same op.id c.args.id.now && op.doc == c.args.doc && is_insert op.body) c.args.id.now.counter c.args.ops.now c.args.places.now c.loop-rest.rest.now c.split_at.result.1.now
      (length c.loop-rest.rest.now / 2) c.head_at-head.result (insert_only c.args.id.now c.args.doc) c.loop-rest.invariant.left
      (half (length c.loop-rest.rest.now) c.is_empty.result c.is_empty.ensures c.loop-rest-test.true) c.head_at-head.ensures (omega arith) c.split_at.ensures.back;
  within = let short = c.split_at.ensures.back_len in let was = c.loop-rest.invariant.within in omega arith;
}

pub loop-rest-preserved : goal.loop-rest-preserved
loop-rest-preserved c = record {
  left = left_before (λ op. is_same op.id c.args.id.now && op.doc == c.args.doc && is_insert op.body) c.args.id.now.counter c.args.ops.now c.args.places.now c.loop-rest.rest.now
      c.split_at-else-counter-wanted-2.result.0.now (length c.loop-rest.rest.now / 2) c.head_at-head.result (insert_only c.args.id.now c.args.doc) c.loop-rest.invariant.left
      (half (length c.loop-rest.rest.now) c.is_empty.result c.is_empty.ensures c.loop-rest-test.true) c.head_at-head.ensures (omega arith) c.split_at-else-counter-wanted-2.ensures.front;
  within = let short = c.split_at-else-counter-wanted-2.ensures.front_len in let was = c.loop-rest.invariant.within in omega arith;
}
