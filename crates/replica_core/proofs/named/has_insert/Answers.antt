use Rattle.std.proofs.Common.{Bool, ◌∙◌, sym, refl, arith}
use Rattle.std.specs.Prelude.{◌==◌, ◌&&◌}
use Rattle.op_ids.specs.Id.{is_same}
use Rattle.op_list.specs.declared.head.OpHead.{OpHead}
use Rattle.op_list.specs.Heads.{head_of}
use Rattle.replica_core.proofs.ClimbLemmas.{insert_only, left_here, IsLeft}
use Rattle.replica_core.proofs.named.has_insert.Goals as goal

pub returns-then-counter : goal.returns-then-counter
returns-then-counter c =
    let q : OpHead → Bool = λ h. is_same h.id c.args.id.now && h.doc == c.args.doc && h.is_insert in
    let left : IsLeft (λ op. q (head_of op)) c.args.ops.now c.args.places.now c.args.places.now = record {
      decides = refl;
      below = c.requires.below;
      climb = c.requires.climb;
    } in
    c.is_insert_at.ensures
    ∙ sym (left_here q c.args.id.now.counter c.args.ops.now c.args.places.now c.args.places.now c.guessed-guess.result c.head_at-head.result
    (insert_only c.args.id.now c.args.doc) left (omega arith) c.head_at-head.ensures (omega arith))
