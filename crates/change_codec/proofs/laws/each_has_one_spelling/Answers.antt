use Rattle.std.proofs.Common.{◌∙◌, sym}
use Rattle.change_codec.proofs.laws.each_has_one_spelling.Goals as goal

pub returns : goal.returns
returns c = λ op bytes others n m one two. one.spelled_so ∙ sym two.spelled_so
