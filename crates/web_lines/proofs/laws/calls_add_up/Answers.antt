use Rattle.web_lines.proofs.JoiningLemmas.{joined}
use Rattle.web_lines.proofs.laws.calls_add_up.Goals as goal

pub returns : goal.returns
returns g c mid new first second x y = joined g.S.Write.contents g.S.Read.remaining c.args.lines.now mid new first second x y
