-- Why the root slots of a file aren't loaded.
use Rattle.std.specs.Prelude.{◌≡◌, ℕ, Result, Ok, Err, ⊤}
use Rattle.fixed_numbers.specs.declared.refusals.TheConstants.{BAD_ROOT, NO_ROOT, MEMORY, READ_FAILED}
use Rattle.root_slots.specs.declared.error.RootsError.{RootsError}
use Rattle.root_slots.specs.declared.error.RootsError.TheVariants.{Memory, NoRoot, BadRoot, ReadFailed}

-- each refusal has one number
abbrev pub number_of : RootsError → ℕ
number_of Memory = MEMORY
number_of NoRoot = NO_ROOT
number_of BadRoot = BAD_ROOT
number_of ReadFailed = READ_FAILED

-- a refusal has met a failure of the device, or not
abbrev pub failures_of : RootsError → ℕ
failures_of Memory = 0
failures_of NoRoot = 0
failures_of BadRoot = 0
failures_of ReadFailed = 1

-- what a load that answers so has met
abbrev pub failed_in : {T : Type 0} → Result T RootsError → ℕ
failed_in (Ok x) = 0
failed_in (Err e) = failures_of e

-- this refusal names the first fault of what was sought in a file; one of memory or of the device says nothing of it
abbrev pub NamesRootFault : {T : Type 0} → RootsError → Result T ℕ → Type 0
NamesRootFault Memory found = ⊤
NamesRootFault NoRoot found = found ≡ Err NO_ROOT
NamesRootFault BadRoot found = found ≡ Err BAD_ROOT
NamesRootFault ReadFailed found = ⊤
