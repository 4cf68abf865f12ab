use Rattle.std.proofs.Common.{◌≡◌, ◌++◌, List}
use Rattle.std.specs.Vec.Iter.{into_iter_items}
use Rattle.op_model.specs.declared.op.Op.{Op}
use Rattle.replica_core.specs.Docs.{draft_numbers, numbers, AllDrafts, AllStand}
use Rattle.replica_core.proofs.drafts.finished.Given as goal

-- those that were passed have their documents, and the others are still drafts
abbrev pub invariant-loop-draft : goal.invariant-loop-draft
invariant-loop-draft l = record {
  numbers : numbers l.docs.items ++ draft_numbers (into_iter_items l.draft-iterator) ≡ draft_numbers l.fn.drafts.items;
  stand : (ops : List Op) → AllDrafts l.fn.drafts.items ops → AllStand l.docs.items ops;
  drafts : (ops : List Op) → AllDrafts l.fn.drafts.items ops → AllDrafts (into_iter_items l.draft-iterator) ops;
}
