use Rattle.std.proofs.Common.{◌≡◌, None, refl}
use Rattle.uuid.specs.Text.{parsed}
use Rattle.session_lines.proofs.FieldLemmas.{is_not_nil, no_value}
use Rattle.session_lines.proofs.anchor_text.replica.Goals as goal

pub returns-in-Ok : goal.returns-in-Ok
returns-in-Ok c = rw (← c.in-Ok.ensures.bytes) (is_not_nil c.from_uuid.result _ c.from_uuid.ensures.none c.from_uuid.ensures.some)

pub returns-in-Err : goal.returns-in-Err
returns-in-Err c = let none : parsed c.args.bytes.now ≡ None = no_value _ c.in-Err.ensures.ok.1 in rw none refl
