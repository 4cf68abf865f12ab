use Rattle.std.proofs.Common.{◌≡◌, ◌+◌, ◌++◌, drop}
use Rattle.doc_core.specs.Typing.{run_from}
use Rattle.doc_core.proofs.numbering.run.Given as goal

abbrev pub invariant-loop-value : goal.invariant-loop-value
invariant-loop-value l = record {
  run : run_from l.replica l.fn.counter l.text ≡ l.run.items ++ run_from l.replica l.next (drop l.value-index l.text);
  next : l.next ≡ l.fn.counter + l.value-index;
}
