-- The numbers of a disk's refusals.
use Rattle.std.specs.Prelude.{ℕ}
use Rattle.fixed_numbers.specs.declared.refusals.TheConstants.{OPEN_FAILED, PAST_END, READ_FAILED, SYNC_FAILED, WRITE_FAILED}
use Rattle.disk_trait.specs.declared.error.DiskError.{DiskError}
use Rattle.disk_trait.specs.declared.error.DiskError.TheVariants.{ReadFailed, WriteFailed, SyncFailed, PastEnd, OpenFailed}

-- each refusal has one number
abbrev pub number_of : DiskError → ℕ
number_of ReadFailed = READ_FAILED
number_of WriteFailed = WRITE_FAILED
number_of SyncFailed = SYNC_FAILED
number_of PastEnd = PAST_END
number_of OpenFailed = OPEN_FAILED
