-- What the machine is answered in each phase of a commit.
use Rattle.std.proofs.Common.{◌≡◌, ◌≢◌, false, refl}
use Rattle.op_model.specs.Machine.{goes_on}
use Rattle.group_commit.specs.Begin.{is_idle}
use Rattle.group_commit.specs.declared.phase.Phase.{Phase}
use Rattle.group_commit.specs.declared.phase.Phase.TheVariants.{Idle, Pages, Close, Sync1, Body, Sync2, Gate, Sync3}
use Rattle.locked_replica.specs.Steps.{stepped_in}

-- but for the last one, a call of a commit goes on
pub goes_on_in : (p : Phase) → is_idle p ≡ false → p ≢ Sync3 → stepped_in p ≡ goes_on
goes_on_in Idle busy other = absurd (cc)
goes_on_in (Pages k) busy other = refl
goes_on_in Close busy other = refl
goes_on_in Sync1 busy other = refl
goes_on_in Body busy other = refl
goes_on_in Sync2 busy other = refl
goes_on_in Gate busy other = refl
goes_on_in Sync3 busy other = absurd (other refl)
