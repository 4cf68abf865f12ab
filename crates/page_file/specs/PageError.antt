-- The numbers of the refusals of pages.
use Rattle.std.specs.Prelude.{ℕ}
use Rattle.fixed_numbers.specs.declared.refusals.TheConstants.{BAD_TABLE, MEMORY, NO_PAGE, PAGE_NUMBER, READ_FAILED, WRITE_FAILED}
use Rattle.page_file.specs.declared.error.PageError.{PageError}
use Rattle.page_file.specs.declared.error.PageError.TheVariants.{Memory, PageNumber, NoPage, BadTable, ReadFailed, WriteFailed}

-- each refusal has one number
abbrev pub number_of : PageError → ℕ
number_of Memory = MEMORY
number_of PageNumber = PAGE_NUMBER
number_of NoPage = NO_PAGE
number_of BadTable = BAD_TABLE
number_of ReadFailed = READ_FAILED
number_of WriteFailed = WRITE_FAILED

-- a refusal has met a failure of the device, or not
abbrev pub failures_of : PageError → ℕ
failures_of Memory = 0
failures_of PageNumber = 0
failures_of NoPage = 0
failures_of BadTable = 0
failures_of ReadFailed = 1
failures_of WriteFailed = 1
