use Rattle.replica_core.proofs.PastLemmas.{past_spans, past_text}
use Rattle.replica_core.proofs.past.the_past_goes_by_the_number_of_operations.Goals as goal

pub returns : goal.returns
returns c = record { text = past_text; spans = past_spans }
