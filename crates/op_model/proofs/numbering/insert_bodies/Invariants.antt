use Rattle.std.proofs.Common.{◌≡◌, ◌+◌, ◌++◌, drop}
use Rattle.op_model.specs.Made.{insert_bodies}
use Rattle.op_model.proofs.numbering.insert_bodies.Given as goal

abbrev pub invariant-loop-value : goal.invariant-loop-value
invariant-loop-value l = record {
  bodies : insert_bodies l.replica l.fn.counter l.fn.origin l.text
      ≡ l.bodies.items ++ insert_bodies l.replica l.next l.behind (drop l.value-index l.text);
  next : l.next ≡ l.fn.counter + l.value-index;
}
