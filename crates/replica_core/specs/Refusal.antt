-- Why a replica refuses a call.
use Rattle.std.specs.Prelude.{ℕ}
use Rattle.fixed_numbers.specs.declared.refusals.TheConstants.{MEMORY, RANGE, STALE, LIMIT, STEPS, BAD_OPERATION}
use Rattle.fixed_numbers.specs.declared.refusals.TheConstants.{OWN_UNKNOWN, COUNTER, NAMES, DOCUMENT, STORE_LIMIT}
use Rattle.replica_core.specs.declared.refusal.Refusal.{Refusal}
use Rattle.replica_core.specs.declared.refusal.Refusal.TheVariants as refusal

-- the number of each refusal
abbrev pub number_of : Refusal → ℕ
number_of refusal.Memory = MEMORY
number_of refusal.Range = RANGE
number_of refusal.Stale = STALE
number_of refusal.Limit = LIMIT
number_of refusal.Steps = STEPS
number_of refusal.OwnUnknown = OWN_UNKNOWN
number_of refusal.Counter = COUNTER
number_of refusal.Names = NAMES
number_of refusal.Document = DOCUMENT
number_of refusal.StoreLimit = STORE_LIMIT
number_of refusal.BadOperation = BAD_OPERATION
