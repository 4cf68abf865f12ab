use Rattle.page_file.proofs.NumberLemmas.{numbers_again}
use Rattle.page_file.proofs.laws.numbers_are_read_back.Goals as goal

pub returns : goal.returns
returns c = numbers_again
