use Rattle.page_file.proofs.NumberLemmas.{length-number_bytes}
use Rattle.page_file.proofs.laws.a_number_has_four_bytes.Goals as goal

pub returns : goal.returns
returns c = length-number_bytes
