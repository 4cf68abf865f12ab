use Rattle.std.proofs.Common.{rules, ◌≡◌, None}
use Rattle.op_model.specs.Made.{edit_refusal}
use Rattle.model_laws.specs.Asking.{IsAskedRight}
use Rattle.replica_core.proofs.deciding.edit_length.Goals as goal

pub returns-clause-length : goal.returns-clause-length
returns-clause-length c =
    let right : IsAskedRight c.args.ops.now c.args.edit.now = search rules in
    let none : edit_refusal c.args.ops.now c.args.known.now.replica c.args.edit.now ≡ None = search rules in (
      none,
      c.waiting_length.ensures c.args.ops.now c.args.known.now.replica c.requires.stands c.requires.number c.requires.counted.clock right
          (c.made_length-bytes.ensures c.args.ops.now c.requires.stands c.requires.number c.requires.counted.clock right),
    )
