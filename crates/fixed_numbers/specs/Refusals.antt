-- All numbers of refusals.
use Rattle.std.specs.Prelude.{ℕ, List, [], ◌∷◌}
use Rattle.fixed_numbers.specs.declared.refusals.TheConstants.{MEMORY, SYNTAX, REQUEST, FIELD, RANGE, STALE, LIMIT, BUSY, FAILED}
use Rattle.fixed_numbers.specs.declared.refusals.TheConstants.{STEPS, LINE, STOPPING, OWN_UNKNOWN, COUNTER, NAMES, DOCUMENT}
use Rattle.fixed_numbers.specs.declared.refusals.TheConstants.{STORE_LIMIT, BAD_FRAME, BAD_HELLO, CLOSED, LENGTH, KIND, NUMBER}
use Rattle.fixed_numbers.specs.declared.refusals.TheConstants.{SCALAR, UTF8, ORDER, ANCHOR, PAGE_NUMBER, NO_PAGE, NO_ROOT}
use Rattle.fixed_numbers.specs.declared.refusals.TheConstants.{BAD_ROOT, STORE_FAILED, BAD_TABLE, BAD_STREAM, BAD_OPERATION}
use Rattle.fixed_numbers.specs.declared.refusals.TheConstants.{NOT_EMPTY, READ_FAILED, WRITE_FAILED, SYNC_FAILED, PAST_END}
use Rattle.fixed_numbers.specs.declared.refusals.TheConstants.{OPEN_FAILED, UNKNOWN_ID, SOCKET, STREAM}

-- the numbers of a session, an edit and a merge
abbrev pub of_sessions : List ℕ
of_sessions = MEMORY ∷ SYNTAX ∷ REQUEST ∷ FIELD ∷ RANGE ∷ STALE ∷ LIMIT ∷ BUSY ∷ FAILED ∷ STEPS ∷ LINE ∷ STOPPING ∷ []

-- of an operation that is merged
abbrev pub of_merges : List ℕ
of_merges = OWN_UNKNOWN ∷ COUNTER ∷ NAMES ∷ DOCUMENT ∷ STORE_LIMIT ∷ []

-- of a link between peers
abbrev pub of_links : List ℕ
of_links = BAD_FRAME ∷ BAD_HELLO ∷ CLOSED ∷ []

-- of the record of an operation
abbrev pub of_records : List ℕ
of_records = LENGTH ∷ KIND ∷ NUMBER ∷ SCALAR ∷ UTF8 ∷ ORDER ∷ ANCHOR ∷ []

-- of a file and its pages
abbrev pub of_files : List ℕ
of_files =
    PAGE_NUMBER ∷ NO_PAGE ∷ NO_ROOT ∷ BAD_ROOT ∷ STORE_FAILED ∷ BAD_TABLE ∷ BAD_STREAM ∷ BAD_OPERATION ∷ NOT_EMPTY ∷ []

-- of the device
abbrev pub of_devices : List ℕ
of_devices = READ_FAILED ∷ WRITE_FAILED ∷ SYNC_FAILED ∷ PAST_END ∷ OPEN_FAILED ∷ []

-- of the rest
abbrev pub of_the_rest : List ℕ
of_the_rest = UNKNOWN_ID ∷ SOCKET ∷ STREAM ∷ []
