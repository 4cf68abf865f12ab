use Rattle.model_laws.proofs.Erased.{made_text}
use Rattle.model_laws.proofs.edits.edits_change_the_text.Goals as goal

pub returns : goal.returns
returns c = made_text
