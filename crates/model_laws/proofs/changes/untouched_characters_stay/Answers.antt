use Rattle.model_laws.proofs.MarksKept.{marks_kept, untouched_kept}
use Rattle.model_laws.proofs.changes.untouched_characters_stay.Goals as goal

pub returns : goal.returns
returns c = record { marks = marks_kept; kept = untouched_kept }
