use Rattle.std.proofs.Common.{[], ◌∷◌, refl}
use Rattle.std.proofs.lemmas.Result.{on_ok_weaker}
use Rattle.char_sequence.proofs.HoldsLemmas.{holds_marking}
use Rattle.mark_anchors.proofs.KeepLemmas.{gathered_with, insert_marks_none, remove_marks_none}
use Rattle.doc_core.proofs.draft.take.Goals as goal

pub returns-in-Insert-clause-taken : goal.returns-in-Insert-clause-taken
returns-in-Insert-clause-taken c =
    on_ok_weaker c.insert.result (λ takes. λ ops doc holds marks fits. (
      takes ops doc c.args.op.now fits refl c.in-Insert.is holds,
      gathered_with c.args.gathering.now ops (c.args.op.now ∷ []) doc (insert_marks_none c.args.op.now doc c.in-Insert.origin c.in-Insert.value c.in-Insert.is) marks,
    ))
    c.insert.ensures.taken

pub returns-in-Remove-clause-taken : goal.returns-in-Remove-clause-taken
returns-in-Remove-clause-taken c =
    on_ok_weaker c.remove.result (λ takes. λ ops doc holds marks fits. (
      takes c.args.op.now.id ops doc c.args.op.now fits refl c.in-Remove.is holds,
      gathered_with c.args.gathering.now ops (c.args.op.now ∷ []) doc (remove_marks_none c.args.op.now doc c.in-Remove.target c.in-Remove.is) marks,
    ))
    c.remove.ensures.taken

pub returns-in-AddMark-clause-taken : goal.returns-in-AddMark-clause-taken
returns-in-AddMark-clause-taken c =
    on_ok_weaker c.apply_mark.result (λ takes. λ ops doc holds marks fits.
    (holds_marking c.args.weave.now c.args.op.now (rw c.in-AddMark.is refl) ops doc holds fits, takes ops doc marks fits))
    c.apply_mark.ensures.taken

pub returns-in-RemoveMark-clause-taken : goal.returns-in-RemoveMark-clause-taken
returns-in-RemoveMark-clause-taken c =
    on_ok_weaker c.apply_mark-in-RemoveMark.result (λ takes. λ ops doc holds marks fits.
    (holds_marking c.args.weave.now c.args.op.now (rw c.in-RemoveMark.is refl) ops doc holds fits, takes ops doc marks fits))
    c.apply_mark-in-RemoveMark.ensures.taken
