use Rattle.std.proofs.Common.{◌≡◌, None, refl}
use Rattle.uuid.specs.Text.{parsed}
use Rattle.command_syntax.proofs.ValueLemmas.{is_above_zero, no_value}
use Rattle.command_syntax.proofs.values.replica.Goals as goal

pub returns-in-Ok : goal.returns-in-Ok
returns-in-Ok c = rw (← c.in-Ok.ensures.bytes) (is_above_zero c.from_uuid.result _ c.from_uuid.ensures.none c.from_uuid.ensures.some)

pub returns-in-Err : goal.returns-in-Err
returns-in-Err c = let none : parsed c.args.text.now ≡ None = no_value _ c.in-Err.ensures.ok.1 in rw none refl
