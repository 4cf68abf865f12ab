use Rattle.std.proofs.Common.{◌≡◌, ◌+◌, ◌++◌, true, drop, length}
use Rattle.op_ids.specs.Clock.{advanced_by, is_clock}
use Rattle.op_model.specs.Made.{numbered}
use Rattle.op_model.proofs.numbering.numbered.Given as goal

abbrev pub invariant-loop-body : goal.invariant-loop-body
invariant-loop-body l = record {
  ops : numbered l.author.replica l.doc l.author.token l.author.counter l.author.clock.now l.bodies
      ≡ l.ops.items ++ numbered l.author.replica l.doc l.author.token l.next l.clock (drop l.body-index l.bodies);
  valid : is_clock l.clock ≡ true;
  room : is_clock (advanced_by l.clock l.author.replica (length (drop l.body-index l.bodies))) ≡ true;
  next : l.next ≡ l.author.counter + l.body-index;
}
