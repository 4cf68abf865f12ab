-- The numbers of a store's refusals.
use Rattle.std.specs.Prelude.{ℕ}
use Rattle.fixed_numbers.specs.declared.refusals.TheConstants.{BUSY, LIMIT, MEMORY, STORE_FAILED, SYNC_FAILED, WRITE_FAILED}
use Rattle.group_commit.specs.declared.error.StoreError.{StoreError}
use Rattle.group_commit.specs.declared.error.StoreError.TheVariants.{Memory, Limit, Busy, Failed, WriteFailed, SyncFailed}

abbrev pub number_of : StoreError → ℕ
number_of Memory = MEMORY
number_of Limit = LIMIT
number_of Busy = BUSY
number_of Failed = STORE_FAILED
number_of WriteFailed = WRITE_FAILED
number_of SyncFailed = SYNC_FAILED
