-- What an edit's refusal tells.
use Rattle.std.proofs.Common.{◌≡◌, ◌≢◌, refl}
use Rattle.op_ids.specs.declared.clock_error.ClockError.{ClockError}
use Rattle.op_ids.specs.declared.clock_error.ClockError.TheVariants as clock
use Rattle.slow_programs.specs.declared.edit_error.EditError.TheVariants.{Memory, Limit}
use Rattle.slow_programs.specs.EditError.{of_clock}

-- a clock's refusal that isn't out of memory is its limit
pub limit_alone : {P : Type 0} (e : ClockError) → (e ≡ clock.Limit → P) → of_clock e ≢ Memory → (of_clock e ≡ Limit) × P
limit_alone clock.Memory at_limit other = absurd (other refl)
limit_alone clock.Limit at_limit other = (refl, at_limit refl)
