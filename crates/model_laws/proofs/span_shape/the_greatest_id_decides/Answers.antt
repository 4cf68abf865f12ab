use Rattle.model_laws.proofs.Chosen.{deciding_covers, deciding_greatest}
use Rattle.model_laws.proofs.span_shape.the_greatest_id_decides.Goals as goal

pub returns : goal.returns
returns c = record { covering = deciding_covers; greatest = deciding_greatest }
