use Rattle.std.proofs.Common.{◌∙◌}
use Rattle.span_flatten.specs.Ranking.{has_rank}
use Rattle.span_flatten.proofs.RankLemmas.{decided_by_none, decided_by_top}
use Rattle.span_flatten.proofs.ranks.Ranks.decided.Goals as goal

pub returns-in-Some : goal.returns-in-Some
returns-in-Some c = λ set key up are.
    c.mark_at.ensures
    ∙ decided_by_top c.args.markings.now set key (has_rank c.args.self.now) c.in-Some.rank up are c.in-Some.ensures.some.0 c.in-Some.ensures.some.1

pub returns-in-None : goal.returns-in-None
returns-in-None c = λ set key up are. decided_by_none c.args.markings.now set key (has_rank c.args.self.now) are c.in-None.ensures.none
