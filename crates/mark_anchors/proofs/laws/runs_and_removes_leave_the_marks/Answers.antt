use Rattle.mark_anchors.proofs.KeepLemmas.{kept_with, removes_mark_none, run_marks_none}
use Rattle.mark_anchors.proofs.laws.runs_and_removes_leave_the_marks.Goals as goal

pub returns-clause-run : goal.returns-clause-run
returns-clause-run c = λ kept ops doc origin run more are is_run. kept_with kept ops more doc (run_marks_none origin run more doc is_run) are

pub returns-clause-removes : goal.returns-clause-removes
returns-clause-removes c = λ kept ops doc ids more are removes. kept_with kept ops more doc (removes_mark_none ids more doc removes) are
