use Rattle.std.proofs.Common.{rules}
use Rattle.change_codec.specs.Reading.{number_at, replica_at}
use Rattle.causal_sync.specs.Reading.{name_at}
use Rattle.causal_sync.proofs.take_content.take_name.Goals as goal

pub returns-in_default : goal.returns-in_default
unfolding name_at replica_at number_at
returns-in_default c = search rules

pub returns-in_default-read : goal.returns-in_default-read
unfolding name_at replica_at number_at
returns-in_default-read c = search rules

pub returns-then-not-is_empty : goal.returns-then-not-is_empty
unfolding name_at replica_at number_at
returns-then-not-is_empty c = search rules

pub returns : goal.returns
unfolding name_at replica_at number_at
returns c = search rules
