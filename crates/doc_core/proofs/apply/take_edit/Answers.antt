use Rattle.std.proofs.lemmas.Result.{on_ok_weaker}
use Rattle.mark_anchors.proofs.KeepLemmas.{kept_with, removes_mark_none, run_marks_none}
use Rattle.doc_core.proofs.TakingLemmas.{origin_there, removes_name, run_adds, run_names}
use Rattle.doc_core.proofs.apply.take_edit.Goals as goal

pub returns-in-Run-clause-taken : goal.returns-in-Run-clause-taken
returns-in-Run-clause-taken c =
    let is_run = rw c.in-Run.is at c.edit.invariant in
    rw (← c.edit.view_is) (on_ok_weaker c.apply_run.result (λ takes. λ ops doc holds marks fit. (
      takes ops doc c.edit.inside.ops.items fit (rw c.deref.ensures.value is_run.0) holds,
      kept_with c.args.anchors.now ops c.edit.inside.ops.items doc (run_marks_none c.in-Run.origin _ c.edit.inside.ops.items doc is_run.0) marks,
    ))
    c.apply_run.ensures.taken)

pub returns-in-Run-clause-unknown : goal.returns-in-Run-clause-unknown
returns-in-Run-clause-unknown c = λ ops doc holds.
    let is_run = rw c.in-Run.is at c.edit.invariant in
    rw (← c.edit.view_is, run_names c.in-Run.origin _ c.edit.inside.ops.items is_run.1 is_run.0, origin_there ops doc c.in-Run.origin)
    (c.apply_run.ensures.unknown ops doc holds)

pub returns-in-Removes-clause-taken : goal.returns-in-Removes-clause-taken
returns-in-Removes-clause-taken c =
    let are = rw c.in-Removes.is at c.edit.invariant in
    rw (← c.edit.view_is) (on_ok_weaker c.apply_removes.result (λ takes. λ ops doc holds marks fit. (
      takes ops doc c.edit.inside.ops.items fit (rw c.deref-in-Removes.ensures.value are) holds,
      kept_with c.args.anchors.now ops c.edit.inside.ops.items doc (removes_mark_none _ c.edit.inside.ops.items doc are) marks,
    ))
    c.apply_removes.ensures.taken)

pub returns-in-Removes-clause-unknown : goal.returns-in-Removes-clause-unknown
returns-in-Removes-clause-unknown c = λ ops doc holds.
    let are = rw c.in-Removes.is at c.edit.invariant in
    rw (← c.edit.view_is, removes_name _ c.edit.inside.ops.items are, ← c.deref-in-Removes.ensures.value)
    (c.apply_removes.ensures.unknown ops doc holds)

pub returns-in-Run-clause-memory : goal.returns-in-Run-clause-memory
returns-in-Run-clause-memory c = λ _.
    let is_run = rw c.in-Run.is at c.edit.invariant in
    rw (← c.edit.view_is) (run_adds c.in-Run.origin _ c.edit.inside.ops.items is_run.1 is_run.0)
