use Rattle.std.proofs.Common.{◌≡◌, ◌<◌, ◌++◌, ◌∷◌, [], get_or, take, length, ap, ◌∙◌, arith}
use Rattle.op_pieces.specs.Pieces.{last_typed, next_typed}
use Rattle.run_list.proofs.Typing.{typing_begins, typed_one, typing_on, none_typed}
use Rattle.run_list.proofs.run_list.RunList.type_piece.Goals as goal

pub loop-value-init : goal.loop-value-init
loop-value-init c =
    typing_begins c.args.self.now c.push.new.self c.args.piece.now c.every_piece_has_a_spelling.ensures
    (c.in_ok-push.ensures.ok ∙ ap (λ op. c.args.self.now ++ op ∷ []) c.first.ensures)

pub type_on-requires : goal.type_on-requires
type_on-requires c =
    let others = c.args.piece.now.others in
    let i = c.loop-value.value-index in
    let is : c.value-item.result ≡ get_or others i c.value-item.result = c.value-item.is ∙ ap (λ vs. get_or vs i c.value-item.result) c.others-value-items.ensures.same in
    let lt : i < length others = omega (arith, ap length c.others-value-items.ensures.same) in (
      next_typed (last_typed c.args.piece.now.first (take i others)) c.value-item.result,
      rw c.first-in-loop-value.ensures (typed_one c.args.self.now c.loop-value.self c.args.piece.now.first others i c.value-item.result c.loop-value.invariant is lt),
    )

pub loop-value-preserved : goal.loop-value-preserved
loop-value-preserved c =
    let others = c.args.piece.now.others in
    let i = c.loop-value.value-index in
    let is : c.value-item.result ≡ get_or others i c.value-item.result = c.value-item.is ∙ ap (λ vs. get_or vs i c.value-item.result) c.others-value-items.ensures.same in
    let lt : i < length others = omega (arith, ap length c.others-value-items.ensures.same) in
    let typed = typed_one c.args.self.now c.loop-value.self c.args.piece.now.first others i c.value-item.result c.loop-value.invariant is lt in
    typing_on c.args.self.now c.loop-value.self c.type_on.new.self c.args.piece.now.first others i c.value-item.result c.loop-value.invariant is lt
    (c.in_ok-type_on.ensures.ok (next_typed (last_typed c.args.piece.now.first (take i others)) c.value-item.result) (rw c.first-in-loop-value.ensures typed))

pub returns-clause-ok : goal.returns-clause-ok
returns-clause-ok c =
    none_typed c.args.self.now c.loop-value.self c.args.piece.now.first c.args.piece.now.others c.loop-value.value-index c.loop-value.invariant
    (omega (arith, ap length c.others-value-items.ensures.same))
