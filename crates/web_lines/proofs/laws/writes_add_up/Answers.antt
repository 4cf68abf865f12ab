use Rattle.web_lines.proofs.TakingLemmas.{takes-append}
use Rattle.web_lines.proofs.laws.writes_add_up.Goals as goal

pub returns : goal.returns
returns g c mid new first second x y = takes-append g.S.Write.contents c.args.answers.now mid new first second x y
