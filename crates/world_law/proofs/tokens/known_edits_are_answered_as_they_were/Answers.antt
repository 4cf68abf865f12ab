use Rattle.world_law.proofs.Known.{answered_as_it_was, answered_from_then_on}
use Rattle.world_law.proofs.tokens.known_edits_are_answered_as_they_were.Goals as goal

pub returns : goal.returns
returns c = record { again = answered_as_it_was; first = answered_from_then_on }
