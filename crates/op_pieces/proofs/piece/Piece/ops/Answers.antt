use Rattle.std.proofs.Common.{rules, ◌≡◌, ◌∷◌, ◌++◌, ◌+◌, [], List, ℕ, drop, ap, sym, ◌∙◌}
use Rattle.std.proofs.lemmas.List.{drop_more}
use Rattle.op_pieces.specs.Pieces.{next_typed}
use Rattle.op_pieces.proofs.UnrolledLemmas.{others_fit, one_made}
use Rattle.op_pieces.proofs.piece.Piece.ops.Goals as goal

pub next_typed-requires : goal.next_typed-requires
next_typed-requires c =
    let at = c.loop-value in
    let others : List ℕ = c.others-others.result.now in
    let item : drop at.value-index others ≡ c.value-item.result ∷ drop (at.value-index + 1) others =
    drop_more others at.value-index c.value-item.result c.loop-value-test.true ∙ ap (λ v. v ∷ drop (at.value-index + 1) others) (sym c.value-item.is) in
    (drop (at.value-index + 1) others, rw item at at.invariant.room)

pub loop-value-preserved : goal.loop-value-preserved
loop-value-preserved c =
    let at = c.loop-value in
    let others : List ℕ = c.others-others.result.now in
    let item : drop at.value-index others ≡ c.value-item.result ∷ drop (at.value-index + 1) others =
    drop_more others at.value-index c.value-item.result c.loop-value-test.true ∙ ap (λ v. v ∷ drop (at.value-index + 1) others) (sym c.value-item.is) in
    let made : c.in_ok-next.next ≡ next_typed at.last c.value-item.result = c.in_ok-next.ensures in
    let pushed : c.push.new.self.items ≡ at.ops.items ++ at.last ∷ [] = search rules in
    rw pushed (record {
      all = one_made _ at.ops.items at.last c.in_ok-next.next c.value-item.result _ (drop (at.value-index + 1) others) at.invariant.all item made;
      room = rw made (others_fit at.last c.value-item.result (drop (at.value-index + 1) others) (rw item at at.invariant.room));
    })
