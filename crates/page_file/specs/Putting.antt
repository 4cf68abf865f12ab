-- What a write of one page does.
use Rattle.std.specs.Prelude.{◌≡◌, ◌↔◌, ◌<◌, ℕ, ◌*◌, List, length, Result, Ok, Err, OnOk, IsErrOf}
use Rattle.fixed_numbers.specs.declared.sizes.TheConstants.{PAGE_SIZE}
use Rattle.disk_trait.specs.File.{overwritten}
use Rattle.disk_trait.specs.Calls.{IsOneCall, Keeps, Tears}
use Rattle.disk_trait.specs.declared.facts.DiskFacts.{Ghosts}
use Rattle.page_file.specs.PageError.{failures_of}
use Rattle.page_file.specs.declared.error.PageError.{PageError}
use Rattle.page_file.specs.declared.error.PageError.TheVariants.{NoPage}

-- a call that answers so has met a failure of the device, or not
abbrev pub failed_in : {T : Type 0} → Result T PageError → ℕ
failed_in (Ok x) = 0
failed_in (Err e) = failures_of e

-- a write that answers so was begun once, or not
abbrev pub writes_in : {T : Type 0} → Result T PageError → ℕ
writes_in (Ok x) = 1
writes_in (Err NoPage) = 0
writes_in (Err e) = 1

-- One device call, the write of these bytes at the n-th page: nothing outside of that page changes, in what reads give and in what
-- a crash may leave.
pub record PutsPage {D : Type 0} {T : Type 0} (facts : Ghosts D) (result : Result T PageError) (n : ℕ) (bytes : List ℕ) (old new : D)
    : Type 0 where
  pub call : IsOneCall facts (failed_in result) (writes_in result) 0 old new
  pub torn : Tears facts (PAGE_SIZE * n) PAGE_SIZE old new
  -- where it succeeds, they are there
  pub written : OnOk result (facts.content new ≡ overwritten (facts.content old) (PAGE_SIZE * n) bytes)
  -- it is no page of the file exactly where it would begin past the end, and then nothing changes
  pub past_end : IsErrOf result NoPage ↔ (length (facts.content old) < PAGE_SIZE * n)
  pub unchanged : IsErrOf result NoPage → Keeps facts old new

-- one such write on a disk that tells as before
pub record IsPagePut {D T : Type 0} (facts : Ghosts D) (result : Result T PageError) (n : ℕ) (bytes : List ℕ) (old new : D) : Type 0 where
  pub puts : facts.tells old → PutsPage facts result n bytes old new
  pub tells : facts.tells new ↔ facts.tells old
