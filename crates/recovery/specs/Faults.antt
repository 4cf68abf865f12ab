-- Why a file has no image.
use Rattle.std.specs.Prelude.{◌≡◌, ℕ, Bool, false, List, Ok}
use Rattle.fixed_numbers.specs.declared.refusals.TheConstants.{BAD_OPERATION}
use Rattle.op_model.specs.declared.op.Op.{Op}
use Rattle.op_model.specs.Causality.{IsCausallyClosed}
use Rattle.stream_list.specs.Streams.{SpellsSome}
use Rattle.root_slots.specs.Root.{format_of, count_of}
use Rattle.group_commit.specs.Image.{stored}
use Rattle.group_commit.specs.Loading.{IsFirstFault, number_of as number_of_load, failures_of as failures_of_load, is_of_sync as is_of_load_sync}
use Rattle.recovery.specs.declared.open_fault.OpenError.{OpenError}
use Rattle.recovery.specs.declared.open_fault.OpenError.TheVariants.{Load, BadOperation}

-- each refusal has one number
abbrev pub number_of : OpenError → ℕ
number_of (Load error) = number_of_load error
number_of BadOperation = BAD_OPERATION

-- a refusal has met a failure of the device, or not
abbrev pub failures_of : OpenError → ℕ
failures_of (Load error) = failures_of_load error
failures_of BadOperation = 0

-- the device failed in the sync, or not
abbrev pub is_of_sync : OpenError → Bool
is_of_sync (Load error) = is_of_load_sync error
is_of_sync BadOperation = false

-- the file's stream spells as many operations as its root says, and these aren't causally closed
pub record HasBadOperation (file : List ℕ) : Type 0 where
  pub body : List ℕ
  pub ops : List Op
  pub bytes : List ℕ
  pub holds : stored file ≡ Ok (body, bytes)
  pub spells : SpellsSome (format_of body) ops (count_of body) bytes
  pub broken : IsCausallyClosed ops → ⊥

-- this refusal names the first fault of the file; one of memory or of the device says nothing of it
abbrev pub IsFault : OpenError → List ℕ → Type 0
IsFault (Load error) file = IsFirstFault error file
IsFault BadOperation file = HasBadOperation file
