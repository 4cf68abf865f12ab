-- What ends the program with status 1.
use Rattle.std.specs.Prelude.{ℕ}
use Rattle.fixed_numbers.specs.declared.refusals.TheConstants.{MEMORY, FIELD, FAILED, SOCKET, STREAM}
use Rattle.fixed_numbers.specs.declared.refusals.TheConstants.{NO_ROOT, BAD_ROOT, BAD_TABLE, BAD_STREAM, BAD_OPERATION, NOT_EMPTY}
use Rattle.fixed_numbers.specs.declared.refusals.TheConstants.{READ_FAILED, WRITE_FAILED, SYNC_FAILED, OPEN_FAILED}
use Rattle.store_orders.specs.declared.fault.Fault.{Fault}
use Rattle.store_orders.specs.declared.fault.Fault.TheVariants as fault

-- each fault has one number
abbrev pub number_of : Fault → ℕ
number_of fault.Memory = MEMORY
number_of fault.Field = FIELD
number_of fault.Failed = FAILED
number_of fault.NoRoot = NO_ROOT
number_of fault.BadRoot = BAD_ROOT
number_of fault.BadTable = BAD_TABLE
number_of fault.BadStream = BAD_STREAM
number_of fault.BadOperation = BAD_OPERATION
number_of fault.NotEmpty = NOT_EMPTY
number_of fault.ReadFailed = READ_FAILED
number_of fault.WriteFailed = WRITE_FAILED
number_of fault.SyncFailed = SYNC_FAILED
number_of fault.OpenFailed = OPEN_FAILED
number_of fault.Socket = SOCKET
number_of fault.Stream = STREAM
