use Rattle.std.proofs.Common.{◌≡◌, ◌∷◌, suc, ◌+◌, drop, take, length, ◌-◌, List, sym, ap, ◌∙◌, refl, arith}
use Rattle.std.proofs.Math.Seq.{drop-cons}
use Rattle.op_model.specs.declared.op.Op.{Op}
use Rattle.op_pieces.specs.Pieces.{longer}
use Rattle.op_pieces.proofs.CutLemmas.{piece_grows, piece_ends, open_grows}
use Rattle.op_pieces.proofs.cutting.cut.Goals.{then-goes_on+in_ok-grow, else-goes_on+in_ok-push+in_ok-copy-2}
use Rattle.op_pieces.proofs.cutting.cut.Goals as goal

pub loop-op-preserved : goal.loop-op-preserved
loop-op-preserved c =
    let rest : List Op = take (length c.args.ops.now - 1) (drop 1 c.args.ops.now) in
    let one : suc c.loop-op.op-index ≡ c.loop-op.op-index + 1 = omega arith in
    let item : drop c.loop-op.op-index rest ≡ c.op-item.result ∷ drop (c.loop-op.op-index + 1) rest =
    drop-cons rest c.loop-op.op-index c.op-item.result c.loop-op-test.true
    ∙ (ap (λ op. op ∷ drop (suc c.loop-op.op-index) rest) (sym c.op-item.is) ∙ ap (λ n. c.op-item.result ∷ drop n rest) one) in
    elim c.if-goes_on.branch [
      | then-goes_on+in_ok-grow w ↦
          let on = sym c.goes_on.ensures.test ∙ w.if-goes_on.true in
          let grown = w.in_ok-grow.ensures.grown ∙ ap (longer c.loop-op.open) w.value_of.ensures in
          rw (w.pieces-is, w.open-is, w.last-is, grown) (record {
            end = open_grows c.loop-op.open c.loop-op.last.now c.op-item.result c.loop-op.invariant.end on;
            pieces = piece_grows c.args.ops.now _ _ c.loop-op.pieces.items c.loop-op.open c.loop-op.last.now c.op-item.result c.loop-op.invariant.pieces item on;
          })
      | else-goes_on+in_ok-push+in_ok-copy-2 w ↦
          let off = sym c.goes_on.ensures.test ∙ w.if-goes_on.false in
          rw (w.pieces-is, w.open-is, w.last-is, w.in_ok-push.ensures.items, w.single-open-else-goes_on.ensures, w.in_ok-copy-2.ensures) (record {
            end = refl;
            pieces = piece_ends c.args.ops.now _ _ c.loop-op.pieces.items c.loop-op.open c.loop-op.last.now c.op-item.result c.loop-op.invariant.pieces item off;
          })
    ]
