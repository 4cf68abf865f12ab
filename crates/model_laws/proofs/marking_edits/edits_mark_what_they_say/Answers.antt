use Rattle.model_laws.proofs.MarkEdits.{made_marks, made_unmarks}
use Rattle.model_laws.proofs.marking_edits.edits_mark_what_they_say.Goals as goal

pub returns : goal.returns
returns c = record { mark = made_marks; unmark = made_unmarks }
