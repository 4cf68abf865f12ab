use Rattle.std.proofs.Common.{◌≤◌, get_or, add-one, arith}
use Rattle.run_list.proofs.Counting.{last_up_to, told_lower}
use Rattle.run_list.proofs.finding.is_run_of.Goals as goal

pub returns-then-run-starts : goal.returns-then-run-starts
returns-then-run-starts c = λ same.
    let begun : get_or c.args.starts.now c.args.run 0 ≤ c.args.place = omega (arith, c.if-starts-run.false) in
    last_up_to c.args.starts.now c.args.run c.args.place c.requires.rising c.requires.within begun (λ more. absurd (omega (arith, c.if-run-starts.true)))

pub returns-else-run-starts : goal.returns-else-run-starts
returns-else-run-starts c = λ behind.
    let begun : get_or c.args.starts.now c.args.run 0 ≤ c.args.place = omega (arith, c.if-starts-run.false) in
    last_up_to c.args.starts.now c.args.run c.args.place c.requires.rising c.requires.within begun (λ more. told_lower c.args.place _ (rw add-one at behind))
