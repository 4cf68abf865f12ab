use Rattle.std.proofs.Common.{refl}
use Rattle.world_law.proofs.SmallHistory.{begins, happens, shown}
use Rattle.world_law.proofs.witness.an_operation_goes_from_one_replica_to_another.Goals as goal

pub returns : goal.returns
returns c = record { beginning = begins; happens = happens; shown = shown; lost = refl; again = refl }
