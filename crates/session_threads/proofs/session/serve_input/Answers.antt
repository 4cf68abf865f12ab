use Rattle.std.proofs.Common.{[], ◌++◌, Some, arith, sym, ap, ◌∙◌, take}
use Rattle.std.proofs.lemmas.Result.{err_from_is_err_and}
use Rattle.std.proofs.KnownBytes.{Appends-trans, Consumes-trans, Consumes-kept}
use Rattle.session_threads.specs.Held.{lines_after, held_after}
use Rattle.session_threads.proofs.LineLemmas.{held_after-append}
use Rattle.session_threads.proofs.OutcomeLemmas.{Consumes-end, exchanged, served, cut_between, cut_within}
use Rattle.session_threads.proofs.session.serve_input.Goals as goal

pub returns-in_err-count-clause-err : goal.returns-in_err-count-clause-err
returns-in_err-count-clause-err g c =
    let (long, read, text, consumed, held, fits, answered, written) = c.loop.invariant in
    let p = err_from_is_err_and c.from_residual.result c.from_residual.ensures.1 in
    rw p.1
    (cut_between g.D.Desk.serves _ _ _ _ _ _ read text
    (Consumes-kept _ _ _ read consumed c.in_err-count.ensures.bytes) answered written)

pub returns-then-count-eq0-clause-ok : goal.returns-then-count-eq0-clause-ok
returns-then-count-eq0-clause-ok g c =
    let (long, read, text, consumed, held, fits, answered, written) = c.loop.invariant in
    let (last, end) = c.in_ok-count.ensures.bytes in
    served g.D.Desk.serves _ _ _ _ _ _ read text
    (Consumes-end _ _ _ read c.in_ok-count.count c.read_some.new.piece consumed last c.if-count-eq0.true)
    (end c.if-count-eq0.true (omega arith)) answered written

pub returns-in_err-serve_piece-clause-err : goal.returns-in_err-serve_piece-clause-err
returns-in_err-serve_piece-clause-err g c =
    let (long, read, text, consumed, held, fits, answered, written) = c.loop.invariant in
    let (lines, front, (rest, begins), cut, more) = c.in_err-serve_piece.ensures.err in
    let piece = take c.in_ok-count.count c.read_some.new.piece in
    let p = err_from_is_err_and c.from_residual-in_err-serve_piece.result c.from_residual-in_err-serve_piece.ensures.1 in
    rw p.1
    (cut_within g.D.Desk.serves _ _ _ _ _ _ _ read piece text front lines
    (Consumes-trans _ _ _ read piece consumed c.in_ok-count.ensures.bytes.0)
    answered
    (rest, ap (λ line. lines_after line piece) (sym held) ∙ begins)
    cut
    (Appends-trans _ _ _ text front written more))

pub loop-preserved : goal.loop-preserved
loop-preserved g c =
    let (long, read, text, consumed, held, fits, answered, written) = c.loop.invariant in
    let (next, said, more) = c.in_ok-serve_piece.ensures.ok in
    let piece = take c.in_ok-count.count c.read_some.new.piece in (
      omega arith,
      read ++ piece,
      text ++ next,
      Consumes-trans _ _ _ read piece consumed c.in_ok-count.ensures.bytes.0,
      c.in_ok-serve_piece.ensures.line ∙ ap (λ line. held_after line piece) held ∙ sym (held_after-append (Some []) read piece),
      c.in_ok-serve_piece.ensures.fits,
      exchanged g.D.Desk.serves _ _ _ c.loop.room.line read piece text next held answered said,
      Appends-trans _ _ _ text next written more,
    )

pub returns-clause-err : goal.returns-clause-err
returns-clause-err g c =
    let (long, read, text, consumed, held, fits, answered, written) = c.loop.invariant in
    cut_between g.D.Desk.serves _ _ _ _ _ _ read text consumed answered written
