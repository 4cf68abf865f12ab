-- What a file is loaded as, what a refusal to load it says, and what loading does to the disk.
use Rattle.std.specs.Prelude.{◌≡◌, ◌⊎◌, ℕ, ◌+◌, ◌*◌, nat_le, Bool, true, false, not, ◌&&◌, List, [], ◌∷◌, length, take, drop, Result, Ok, Err}
use Rattle.std.specs.Prelude.{⊤, if◌then◌else◌}
use Rattle.fixed_numbers.specs.declared.refusals.TheConstants.{BAD_OPERATION, BAD_ROOT, BAD_STREAM, BAD_TABLE, NO_ROOT, MEMORY, READ_FAILED, SYNC_FAILED}
use Rattle.fixed_numbers.specs.declared.sizes.TheConstants.{PAGE_SIZE}
use Rattle.op_model.specs.declared.op.Op.{Op}
use Rattle.page_file.specs.Pages.{pages, are_whole, is_zero, joined}
use Rattle.change_codec.specs.declared.format.Format.{Format}
use Rattle.root_slots.specs.Root.{format_of, replica_of, count_of, pages_for}
use Rattle.root_slots.specs.Body.{Root}
use Rattle.stream_list.specs.Streams.{SpellsShort, HasNone, HasTooLong}
use Rattle.stream_list.specs.declared.read_error.ReadError.{ReadError}
use Rattle.stream_list.specs.declared.read_error.ReadError.TheVariants.{Memory as StreamMemory, Stream as StreamBad, Long as StreamLong}
pub use Rattle.page_file.specs.Tables.{reached_by, reached_in}
use Rattle.page_file.specs.declared.error.PageError.{PageError}
use Rattle.page_file.specs.declared.error.PageError.TheVariants.{Memory as PagesMemory}
use Rattle.page_file.specs.declared.error.PageError.TheVariants.{PageNumber as PagesNumber}
use Rattle.page_file.specs.declared.error.PageError.TheVariants.{NoPage as PagesNone}
use Rattle.page_file.specs.declared.error.PageError.TheVariants.{BadTable as PagesBad}
use Rattle.page_file.specs.declared.error.PageError.TheVariants.{ReadFailed as PagesReadFailed}
use Rattle.page_file.specs.declared.error.PageError.TheVariants.{WriteFailed as PagesWriteFailed}
use Rattle.root_slots.specs.declared.error.RootsError.{RootsError}
use Rattle.root_slots.specs.declared.error.RootsError.TheVariants.{Memory as RootsMemory}
use Rattle.root_slots.specs.declared.error.RootsError.TheVariants.{NoRoot as RootsNone}
use Rattle.root_slots.specs.declared.error.RootsError.TheVariants.{BadRoot as RootsBad}
use Rattle.root_slots.specs.declared.error.RootsError.TheVariants.{ReadFailed as RootsReadFailed}
use Rattle.group_commit.specs.Saved.{Saved}
use Rattle.group_commit.specs.Image.{stored}
use Rattle.group_commit.specs.declared.open_fault.OpenError.{OpenError}
use Rattle.group_commit.specs.declared.open_fault.OpenError.TheVariants.{Memory, NoRoot, BadRoot, BadTable, BadStream, TooLong, ReadFailed, SyncFailed}

-- each refusal has one number
abbrev pub number_of : OpenError → ℕ
number_of Memory = MEMORY
number_of NoRoot = NO_ROOT
number_of BadRoot = BAD_ROOT
number_of BadTable = BAD_TABLE
number_of BadStream = BAD_STREAM
number_of TooLong = BAD_OPERATION
number_of ReadFailed = READ_FAILED
number_of SyncFailed = SYNC_FAILED

-- a refusal has met a failure of the device, or not
abbrev pub failures_of : OpenError → ℕ
failures_of ReadFailed = 1
failures_of SyncFailed = 1
failures_of error = 0

-- the device failed in the sync, or not
abbrev pub is_of_sync : OpenError → Bool
is_of_sync SyncFailed = true
is_of_sync error = false

-- a refusal of the root slots is one of the file
abbrev pub of_roots : RootsError → OpenError
of_roots RootsMemory = Memory
of_roots RootsNone = NoRoot
of_roots RootsBad = BadRoot
of_roots RootsReadFailed = ReadFailed

-- a refusal of the pages is one of the file
abbrev pub of_pages : PageError → OpenError
of_pages PagesMemory = Memory
of_pages PagesNumber = ReadFailed
of_pages PagesNone = ReadFailed
of_pages PagesBad = BadTable
of_pages PagesReadFailed = ReadFailed
of_pages PagesWriteFailed = ReadFailed

-- a refusal of the stream is one of the file
abbrev pub of_stream : ReadError → OpenError
of_stream StreamMemory = Memory
of_stream StreamBad = BadStream
of_stream StreamLong = TooLong

-- what a call that answers so has met
abbrev pub failed_in : {T : Type 0} → Result T OpenError → ℕ
failed_in (Ok x) = 0
failed_in (Err e) = failures_of e

-- the root's stream spells these operations in its format, as many as it says, and the file is this replica's
pub record IsHistory (root : Saved) (replica : ℕ) (ops : List Op) : Type 0 where
  pub spelled : SpellsShort (format_of root.body) ops (count_of root.body) root.stream
  pub owner : replica ≡ replica_of root.body

-- the file has a root and a stream, and the stream doesn't spell as many operations as the root says
pub record HasNoHistory (file : List ℕ) : Type 0 where
  pub body : List ℕ
  pub bytes : List ℕ
  pub holds : stored file ≡ Ok (body, bytes)
  pub none : HasNone (format_of body) bytes (count_of body)

-- the file has a root and a stream, which spells as many operations as the root says, whose records take more than 2^30 bytes
pub record HasLongHistory (file : List ℕ) : Type 0 where
  pub body : List ℕ
  pub bytes : List ℕ
  pub holds : stored file ≡ Ok (body, bytes)
  pub long : HasTooLong (format_of body) bytes (count_of body)

-- why a stream isn't read as so many operations; out of memory says nothing of it
abbrev pub IsStreamFault : OpenError → Format → List ℕ → ℕ → Type 0
IsStreamFault Memory format bytes count = ⊤
IsStreamFault BadStream format bytes count = HasNone format bytes count
IsStreamFault TooLong format bytes count = HasTooLong format bytes count
IsStreamFault error format bytes count = ⊥

-- this refusal of a read names the first fault of what was sought in a file; one of memory or of the device says nothing of it
abbrev pub NamesLoadFault : {T : Type 0} → OpenError → Result T ℕ → Type 0
NamesLoadFault Memory found = ⊤
NamesLoadFault NoRoot found = found ≡ Err NO_ROOT
NamesLoadFault BadRoot found = found ≡ Err BAD_ROOT
NamesLoadFault BadTable found = found ≡ Err BAD_TABLE
NamesLoadFault BadStream found = found ≡ Err BAD_STREAM
NamesLoadFault TooLong found = ⊥
NamesLoadFault ReadFailed found = ⊤
NamesLoadFault SyncFailed found = ⊥

-- this refusal says what is wrong with the stream of a file that has one
abbrev pub NamesStreamFault : OpenError → List ℕ → Type 0
NamesStreamFault BadStream file = HasNoHistory file
NamesStreamFault TooLong file = HasLongHistory file
NamesStreamFault error file = ⊥

-- this refusal of a read names the first fault of the file
abbrev pub IsReadFault : OpenError → List ℕ → Type 0
IsReadFault error file = NamesLoadFault error (stored file) ⊎ NamesStreamFault error file

-- this refusal names the first fault of the file; one of the sync says nothing of it
abbrev pub IsFirstFault : OpenError → List ℕ → Type 0
IsFirstFault SyncFailed file = ⊤
IsFirstFault error file = IsReadFault error file

-- all of these pages lie whole in a file of this size
abbrev pub are_within : ℕ → List ℕ → Bool
are_within size [] = true
are_within size (n ∷ ns) = nat_le (PAGE_SIZE * n + PAGE_SIZE) size && are_within size ns

-- the stream of n bytes in these data pages; bad table 45, bad stream 46
abbrev pub stream_of : ℕ → List (List ℕ) → Result (List ℕ) ℕ
stream_of n data_pages =
    if not (are_whole data_pages) then Err BAD_TABLE else if not (is_zero (drop n (joined data_pages))) then Err BAD_STREAM else Ok (take n (joined data_pages))

-- the stream behind this number of table pages
abbrev pub stream_behind : ℕ → ℕ → List ℕ → Result (List ℕ) ℕ → Result (List ℕ) ℕ
stream_behind tables n file (Ok ns) = stream_of n (pages (drop tables ns) file)
stream_behind tables n file (Err e) = Err e

-- the pages that a root reaches in a file
abbrev pub reached_of : Root → List ℕ → Result (List ℕ) ℕ
reached_of head file = reached_in head.tables (pages_for PAGE_SIZE head.stream_length) file

-- the stream of a root in a file
abbrev pub stream_at : Root → List ℕ → Result (List ℕ) ℕ
stream_at head file = stream_behind (length head.tables) head.stream_length file (reached_of head file)
