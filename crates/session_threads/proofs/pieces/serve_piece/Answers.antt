use Rattle.std.proofs.Common.{[], ◌∷◌, ◌++◌, refl, sym, ap, ◌∙◌, append-nil}
use Rattle.std.proofs.lemmas.Result.{err_from_is_err_and}
use Rattle.std.proofs.KnownBytes.{Appends-trans}
use Rattle.session_threads.proofs.ExchangeLemmas.{one_exchange, Exchanges-append, CutOff-append}
use Rattle.session_threads.proofs.LineLemmas.{lines_after-more, held_after-more, lines_after-none, held_after-none}
use Rattle.session_threads.proofs.pieces.serve_piece.Goals as goal

pub loop-end-preserved : goal.loop-end-preserved
loop-end-preserved g c =
    let (done, text, lines, held, fits, answered, written) = c.loop-end.invariant in
    let (next, said, appended) = c.in_ok-exchange.ensures.ok in
    let (none, parts) = c.in-Some.ensures in
    rw c.clear.ensures (
      done ++ c.push.new.self ∷ [],
      text ++ next,
      lines_after-more _ done _ _ _ _ _ lines fits none parts c.push.ensures,
      held_after-more _ _ _ _ _ held none parts,
      refl,
      Exchanges-append g.D.Desk.serves _ _ _ done _ text next answered (one_exchange g.D.Desk.serves _ _ _ next said),
      Appends-trans _ _ _ text next written appended,
    )

pub returns-in_err-exchange-clause-err : goal.returns-in_err-exchange-clause-err
returns-in_err-exchange-clause-err g c =
    let (done, text, lines, held, fits, answered, written) = c.loop-end.invariant in
    let (next, said, (front, begins, appended)) = c.in_err-exchange.ensures.err in
    let (none, parts) = c.in-Some.ensures in
    let p = err_from_is_err_and c.from_residual.result c.from_residual.ensures.1 in
    rw p.1 (
      done ++ c.push.new.self ∷ [],
      text ++ front,
      (_, lines_after-more _ done _ _ _ _ _ lines fits none parts c.push.ensures),
      CutOff-append g.D.Desk.serves _ _ _ done _ text front answered (next, said, begins),
      Appends-trans _ _ _ text front written appended,
    )

pub returns-clause-line : goal.returns-clause-line
returns-clause-line g c =
    let (done, text, lines, held, fits, answered, written) = c.loop-end.invariant in
    c.push-2.ensures ∙ sym (held_after-none _ _ fits c.in_default.ensures) ∙ sym held

pub returns-clause-ok : goal.returns-clause-ok
returns-clause-ok g c =
    let (done, text, lines, held, fits, answered, written) = c.loop-end.invariant in
    let all = lines ∙ ap (λ more. done ++ more) (lines_after-none c.loop-end.room.line _ c.in_default.ensures) ∙ append-nil done in
    rw all (text, answered, written)
