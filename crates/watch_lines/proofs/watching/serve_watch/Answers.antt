use Rattle.std.proofs.Common.{[], ◌∷◌, ◌++◌, sym, ◌∙◌}
use Rattle.std.specs.Io.KnownBytes.{Appends}
use Rattle.std.proofs.KnownBytes.{Appends-trans}
use Rattle.std.proofs.lemmas.Result.{err_from_is_err_and, on_err_weaker, on_ok_weaker}
use Rattle.byte_streams.specs.Fronts.{AppendsFront}
use Rattle.session_lines.specs.Saying.{said_edited, said_refused}
use Rattle.session_lines.specs.declared.refusal.Refusal.TheVariants as refusal
use Rattle.watch_lines.specs.declared.source.Next.TheVariants as next
use Rattle.watch_lines.proofs.TellingLemmas.{going_above, told_above, going_not_above, told_not_above, going_quiet, told_quiet}
use Rattle.watch_lines.proofs.TellingLemmas.{gave_end, told_failed, told_closed, over-snoc, front_later}
use Rattle.watch_lines.proofs.watching.serve_watch.Goals.{in-Rev+in_ok-tell-in-Rev, in-Rev+else-is_above, in-Quiet}
use Rattle.watch_lines.proofs.watching.serve_watch.Goals as goal

pub returns-in_err-tell-in-Rev-clause-err : goal.returns-in_err-tell-in-Rev-clause-err
returns-in_err-tell-in-Rev-clause-err g c =
    let (given, going, before) = c.loop.invariant in
    let (fault, is, _) = err_from_is_err_and c.from_residual.result c.from_residual.ensures.1 in
    let n = next.Rev c.in-Rev.rev in
    rw is (
      given ++ n ∷ [],
      gave_end g.S.Source.gives _ _ _ given _ n going c.in-Rev.ensures,
      front_later _ _ _ _ _ (said_edited c.in-Rev.rev)
          (told_above g.S.Source.gives _ _ c.next.new.self given _ c.in-Rev.rev (sym c.is_above.ensures ∙ c.if-is_above.true) going)
          before
          c.in_err-tell-in-Rev.ensures.err,
    )

pub returns-in-Failed-clause-ok : goal.returns-in-Failed-clause-ok
returns-in-Failed-clause-ok g c =
    let (given, going, before) = c.loop.invariant in
    on_ok_weaker c.tell-in-Failed.result
    (λ (after : Appends (g.W.Write.contents c.loop.writer) (g.W.Write.contents c.tell-in-Failed.new.writer) (said_refused refusal.Failed)). (
      given ++ next.Failed ∷ [],
      gave_end g.S.Source.gives _ _ _ given _ next.Failed going c.in-Failed.ensures,
      over-snoc given next.Failed going.goes_on tt,
      rw (told_failed g.S.Source.gives _ _ c.next.new.self given _ going) (Appends-trans _ _ _ _ _ before after),
    ))
    c.tell-in-Failed.ensures.ok

pub returns-in-Failed-clause-err : goal.returns-in-Failed-clause-err
returns-in-Failed-clause-err g c =
    let (given, going, before) = c.loop.invariant in
    on_err_weaker c.tell-in-Failed.result
    (λ (front : AppendsFront (g.W.Write.contents c.loop.writer) (g.W.Write.contents c.tell-in-Failed.new.writer) (said_refused refusal.Failed)). (
      given ++ next.Failed ∷ [],
      gave_end g.S.Source.gives _ _ _ given _ next.Failed going c.in-Failed.ensures,
      front_later _ _ _ _ _ (said_refused refusal.Failed)
          (told_failed g.S.Source.gives _ _ c.next.new.self given _ going)
          before
          front,
    ))
    c.tell-in-Failed.ensures.err

pub returns-in-Closed-clause-ok : goal.returns-in-Closed-clause-ok
returns-in-Closed-clause-ok g c =
    let (given, going, before) = c.loop.invariant in (
      given ++ next.Closed ∷ [],
      gave_end g.S.Source.gives _ _ _ given _ next.Closed going c.in-Closed.ensures,
      over-snoc given next.Closed going.goes_on tt,
      rw (told_closed g.S.Source.gives _ _ c.next.new.self given _ going) before,
    )

pub loop-preserved : goal.loop-preserved
loop-preserved g c =
    let (given, going, before) = c.loop.invariant in
    elim c.match-next.branch [
      | in-Rev+in_ok-tell-in-Rev w ↦
          let above = sym w.is_above.ensures ∙ w.if-is_above.true in (
            given ++ next.Rev w.in-Rev.rev ∷ [],
            rw w.last-is (going_above g.S.Source.gives _ _ _ given _ w.in-Rev.rev above going w.in-Rev.ensures),
            rw (w.writer-is, told_above g.S.Source.gives _ _ c.next.new.self given _ w.in-Rev.rev above going)
                (Appends-trans _ _ _ _ _ before w.in_ok-tell-in-Rev.ensures.ok),
          )
      | in-Rev+else-is_above w ↦
          let above = sym w.is_above.ensures ∙ w.if-is_above.false in (
            given ++ next.Rev w.in-Rev.rev ∷ [],
            rw w.last-is (going_not_above g.S.Source.gives _ _ _ given _ w.in-Rev.rev above going w.in-Rev.ensures),
            rw (w.writer-is, told_not_above g.S.Source.gives _ _ c.next.new.self given _ w.in-Rev.rev above going) before,
          )
      | in-Quiet w ↦ (
        given ++ next.Quiet ∷ [],
        rw w.last-is (going_quiet g.S.Source.gives _ _ _ given _ going w.in-Quiet.ensures),
        rw (w.writer-is, told_quiet g.S.Source.gives _ _ c.next.new.self given _ going) before,
      )
    ]
