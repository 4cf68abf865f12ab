use Rattle.std.proofs.Common.{◌≤◌, length}
use Rattle.std.specs.Prelude.{◌==◌, ◌&&◌}
use Rattle.op_ids.specs.Id.{is_same}
use Rattle.op_model.specs.Causality.{is_insert}
use Rattle.replica_core.proofs.ClimbLemmas.{IsLeft}
use Rattle.replica_core.proofs.named.has_insert_by_halves.Given as goal

-- the rest decides
abbrev pub invariant-loop-rest : goal.invariant-loop-rest
invariant-loop-rest l = record {
  left : IsLeft (λ op. is_same op.id l.id && op.doc == l.doc && is_insert op.body) l.ops l.places l.rest;
  within : length l.rest ≤ length l.places;
}

abbrev pub decreases-loop-rest : goal.decreases-loop-rest
decreases-loop-rest l = length l.rest
