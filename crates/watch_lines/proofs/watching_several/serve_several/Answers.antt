use Rattle.std.proofs.Common.{◌≡◌, true, false, [], ◌∷◌, ◌++◌, append-nil, sym, refl, ◌∙◌}
use Rattle.std.specs.BTreeMap.{get}
use Rattle.std.specs.Io.KnownBytes.{Appends}
use Rattle.std.specs.Ordering.{nat_cmp}
use Rattle.std.proofs.KnownBytes.{Appends-trans}
use Rattle.std.proofs.lemmas.Result.{err_from_is_err_and, on_err_weaker, on_ok_weaker}
use Rattle.byte_streams.specs.Fronts.{AppendsFront}
use Rattle.session_lines.specs.Saying.{said_refused, said_watched}
use Rattle.session_lines.specs.declared.refusal.Refusal.TheVariants as refusal
use Rattle.watch_lines.specs.Telling.{is_above}
use Rattle.watch_lines.specs.TellingSeveral.{told_of}
use Rattle.watch_lines.specs.declared.several_source.NextOf.TheVariants as next
use Rattle.watch_lines.proofs.NumberLemmas.{map_has}
use Rattle.watch_lines.proofs.SeveralLemmas.{begun, newer_of, going_above, told_above, going_not_above, told_not_above, going_quiet, told_quiet}
use Rattle.watch_lines.proofs.SeveralLemmas.{gave_end, told_failed, told_closed, over-of-snoc}
use Rattle.watch_lines.proofs.TellingLemmas.{front_later}
use Rattle.watch_lines.proofs.watching_several.serve_several.Goals.{in-Rev+in_ok-insert-in-Rev+in_ok-tell_of-in-Rev, in-Rev+else-is_above, in-Quiet}
use Rattle.watch_lines.proofs.watching_several.serve_several.Goals as goal

pub loop-init : goal.loop-init
loop-init g c = begun g.S.SeveralSource.gives c.args.source.now (get nat_cmp c.new-last.result) (λ doc. rw c.new-last.ensures.empty refl) _

-- a number that isn't told, since there is no memory to keep it
pub returns-in_err-insert-in-Rev-clause-err : goal.returns-in_err-insert-in-Rev-clause-err
returns-in_err-insert-in-Rev-clause-err g c =
    let (given, going, before) = c.loop.invariant in
    let (fault, is, _) = err_from_is_err_and c.from_residual.result c.from_residual.ensures.1 in
    let above = newer_of _ c.copied.result c.in-Rev.rev c.is_above.result (c.copied.ensures ∙ c.get.ensures.value) c.is_above.ensures c.if-is_above.true in
    let n = next.Rev c.in-Rev.doc c.in-Rev.rev in
    rw is (
      given ++ n ∷ [],
      gave_end g.S.SeveralSource.gives _ _ _ given _ n going c.in-Rev.ensures,
      (
        told_of given,
        (
          said_watched c.in-Rev.doc c.in-Rev.rev,
          told_above g.S.SeveralSource.gives _ _ c.next.new.self given _ c.in-Rev.doc c.in-Rev.rev above going,
        ),
        before,
      ),
    )

pub returns-in_err-tell_of-in-Rev-clause-err : goal.returns-in_err-tell_of-in-Rev-clause-err
returns-in_err-tell_of-in-Rev-clause-err g c =
    let (given, going, before) = c.loop.invariant in
    let (fault, is, _) =
    err_from_is_err_and c.from_residual-in_err-tell_of-in-Rev.result c.from_residual-in_err-tell_of-in-Rev.ensures.1 in
    let above = newer_of _ c.copied.result c.in-Rev.rev c.is_above.result (c.copied.ensures ∙ c.get.ensures.value) c.is_above.ensures c.if-is_above.true in
    let n = next.Rev c.in-Rev.doc c.in-Rev.rev in
    rw is (
      given ++ n ∷ [],
      gave_end g.S.SeveralSource.gives _ _ _ given _ n going c.in-Rev.ensures,
      front_later _ _ _ _ _ (said_watched c.in-Rev.doc c.in-Rev.rev)
          (told_above g.S.SeveralSource.gives _ _ c.next.new.self given _ c.in-Rev.doc c.in-Rev.rev above going)
          before
          c.in_err-tell_of-in-Rev.ensures.err,
    )

pub returns-in-Failed-clause-ok : goal.returns-in-Failed-clause-ok
returns-in-Failed-clause-ok g c =
    let (given, going, before) = c.loop.invariant in
    on_ok_weaker c.tell.result
    (λ (after : Appends (g.W.Write.contents c.loop.writer) (g.W.Write.contents c.tell.new.writer) (said_refused refusal.Failed)). (
      given ++ next.Failed ∷ [],
      gave_end g.S.SeveralSource.gives _ _ _ given _ next.Failed going c.in-Failed.ensures,
      over-of-snoc given next.Failed going.goes_on tt,
      rw (told_failed g.S.SeveralSource.gives _ _ c.next.new.self given _ going) (Appends-trans _ _ _ _ _ before after),
    ))
    c.tell.ensures.ok

pub returns-in-Failed-clause-err : goal.returns-in-Failed-clause-err
returns-in-Failed-clause-err g c =
    let (given, going, before) = c.loop.invariant in
    on_err_weaker c.tell.result
    (λ (front : AppendsFront (g.W.Write.contents c.loop.writer) (g.W.Write.contents c.tell.new.writer) (said_refused refusal.Failed)). (
      given ++ next.Failed ∷ [],
      gave_end g.S.SeveralSource.gives _ _ _ given _ next.Failed going c.in-Failed.ensures,
      front_later _ _ _ _ _ (said_refused refusal.Failed)
          (told_failed g.S.SeveralSource.gives _ _ c.next.new.self given _ going)
          before
          front,
    ))
    c.tell.ensures.err

pub returns-in-Closed-clause-ok : goal.returns-in-Closed-clause-ok
returns-in-Closed-clause-ok g c =
    let (given, going, before) = c.loop.invariant in (
      given ++ next.Closed ∷ [],
      gave_end g.S.SeveralSource.gives _ _ _ given _ next.Closed going c.in-Closed.ensures,
      over-of-snoc given next.Closed going.goes_on tt,
      rw (told_closed g.S.SeveralSource.gives _ _ c.next.new.self given _ going) before,
    )

pub loop-preserved : goal.loop-preserved
loop-preserved g c =
    let (given, going, before) = c.loop.invariant in
    elim c.match-next.branch [
      | in-Rev+in_ok-insert-in-Rev+in_ok-tell_of-in-Rev w ↦
          let number : w.copied.result ≡ get nat_cmp c.loop.last w.in-Rev.doc = w.copied.ensures ∙ w.get.ensures.value in
          let above : is_above w.in-Rev.rev (get nat_cmp c.loop.last w.in-Rev.doc) ≡ true = rw number at (sym w.is_above.ensures ∙ w.if-is_above.true) in (
            given ++ next.Rev w.in-Rev.doc w.in-Rev.rev ∷ [],
            rw w.last-is (going_above g.S.SeveralSource.gives _ _ _ given _ w.in-Rev.doc w.in-Rev.rev (get nat_cmp w.insert.new.self) above
                (λ other. map_has c.loop.last w.insert.new.self w.in-Rev.doc w.in-Rev.rev other w.in_ok-insert-in-Rev.ensures.updates)
                going w.in-Rev.ensures),
            rw (w.writer-is, told_above g.S.SeveralSource.gives _ _ c.next.new.self given _ w.in-Rev.doc w.in-Rev.rev above going)
                (Appends-trans _ _ _ _ _ before w.in_ok-tell_of-in-Rev.ensures.ok),
          )
      | in-Rev+else-is_above w ↦
          let number : w.copied.result ≡ get nat_cmp c.loop.last w.in-Rev.doc = w.copied.ensures ∙ w.get.ensures.value in
          let above : is_above w.in-Rev.rev (get nat_cmp c.loop.last w.in-Rev.doc) ≡ false = rw number at (sym w.is_above.ensures ∙ w.if-is_above.false) in (
            given ++ next.Rev w.in-Rev.doc w.in-Rev.rev ∷ [],
            rw w.last-is (going_not_above g.S.SeveralSource.gives _ _ _ given _ w.in-Rev.doc w.in-Rev.rev above going w.in-Rev.ensures),
            rw (w.writer-is, told_not_above g.S.SeveralSource.gives _ _ c.next.new.self given _ w.in-Rev.doc w.in-Rev.rev above going) before,
          )
      | in-Quiet w ↦ (
        given ++ next.Quiet ∷ [],
        rw w.last-is (going_quiet g.S.SeveralSource.gives _ _ _ given _ going w.in-Quiet.ensures),
        rw (w.writer-is, told_quiet g.S.SeveralSource.gives _ _ c.next.new.self given _ going) before,
      )
    ]

pub returns-clause-err : goal.returns-clause-err
returns-clause-err g c =
    let (given, going, before) = c.loop.invariant in (given, going.run, (told_of given, ([], sym (append-nil _)), before))
