use Rattle.std.proofs.Common.{sym, ◌∙◌}
use Rattle.span_flatten.specs.Formatting.{marks_in}
use Rattle.span_flatten.specs.Picking.{picked}
use Rattle.span_flatten.specs.Sweeping.{kept}
use Rattle.span_flatten.proofs.BackLemmas.{comments_of_runs, last_of_runs}
use Rattle.span_flatten.proofs.KeptLemmas.{up_flagged}
use Rattle.span_flatten.proofs.sweep.is_last_same.Goals as goal

pub returns-in-Some : goal.returns-in-Some
returns-in-Some c = λ decides noted.
    let there = sym c.in-Some.ensures.value in
    c.are_marks.ensures (up_flagged c.args.active.now.in_force.items) decides (rw (comments_of_runs c.args.runs.now c.in-Some.run'.now there) at noted)
    ∙ sym (last_of_runs (marks_in (picked c.args.markings.now (kept c.args.active.now))) c.args.runs.now c.in-Some.run'.now there)
