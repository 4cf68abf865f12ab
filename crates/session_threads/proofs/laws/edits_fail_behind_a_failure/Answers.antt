use Rattle.session_threads.proofs.EditLemmas.{edit_fails}
use Rattle.session_threads.proofs.laws.edits_fail_behind_a_failure.Goals as goal

pub returns : goal.returns
returns c = λ session s next e answer quiet failed step. edit_fails s next session e answer quiet failed step
