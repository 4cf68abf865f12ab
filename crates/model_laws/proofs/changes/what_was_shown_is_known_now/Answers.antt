use Rattle.model_laws.proofs.WasShown.{shown_then_by, removed_first}
use Rattle.model_laws.proofs.MarksKept.{marks_then}
use Rattle.model_laws.proofs.KnownNow.{step_now}
use Rattle.model_laws.proofs.changes.what_was_shown_is_known_now.Goals as goal

pub returns : goal.returns
returns c = record { shown = shown_then_by; first = removed_first; marks = marks_then; step = step_now }
