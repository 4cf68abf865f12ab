use Rattle.std.proofs.Common.{◌+◌, arith}
use Rattle.op_model.specs.Causality.{clock_of}
use Rattle.op_model.specs.Made.{greatest_counter, bodies_of}
use Rattle.model_laws.proofs.Above.{numbered_above}
use Rattle.model_laws.proofs.edits.made_ids_are_greater.Goals as goal

pub returns : goal.returns
returns c = λ ops replica edit.
    numbered_above ops replica edit.doc edit.token (greatest_counter ops + 1) (clock_of ops) (bodies_of ops replica edit.doc edit.change) (omega arith)
