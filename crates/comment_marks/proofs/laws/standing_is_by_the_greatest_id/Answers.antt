use Rattle.comment_marks.proofs.Deciding.{decided_stands, standing_decided}
use Rattle.comment_marks.proofs.laws.standing_is_by_the_greatest_id.Goals as goal

pub returns : goal.returns
returns c = λ set id distinct. (standing_decided set id distinct, λ found. decided_stands set id found.0 found.1 found.2)
