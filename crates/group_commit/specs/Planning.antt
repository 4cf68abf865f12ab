-- What a commit is about to write, as it is planned. Only the making of a plan reads this.
use Rattle.std.specs.Prelude.{◌≡◌, ◌⊎◌, ℕ, ◌+◌, ◌-◌, ◌*◌, ◌<◌, ◌≤◌, Bool, true, false, List, [], ◌++◌, length, replicate}
use Rattle.fixed_numbers.specs.declared.limits.TheConstants.{MAX_OPERATIONS, MAX_STREAM_LENGTH, MAX_VERSION}
use Rattle.fixed_numbers.specs.declared.sizes.TheConstants.{BODY_LENGTH, PAGE_SIZE, TABLE_ENTRIES}
use Rattle.page_file.specs.Free.{AreLowest}
use Rattle.page_file.specs.Index.{Index}
use Rattle.page_file.specs.Pages.{is_zero, are_pages}
use Rattle.root_slots.specs.Root.{format_of, version_of, replica_of, count_of, stream_length_of, tables_of, pages_for}
use Rattle.group_commit.specs.Changes.{changed_pages, data_of}
use Rattle.group_commit.specs.Paging.{IsIndexOf}
use Rattle.group_commit.specs.Plan.{IsNextRoot, KeepsPages, newest}
use Rattle.group_commit.specs.Saved.{Saved, Paged, HasDataPages, with_stream, base_of}
use Rattle.group_commit.specs.Standing.{IsPlan, MakesNext}
use Rattle.group_commit.specs.declared.phase.Phase.TheVariants.{Pages}

-- A plan for these records behind a base, with 4,096 bytes for each new page: those that change or are new. They are the lowest
-- pages that aren't live.
pub record Prepares (live : List ℕ) (base : Saved) (records : List ℕ) (more : ℕ) (next : Saved) (numbers fresh : List ℕ) : Type 0 where
  pub follows : IsNextRoot base records more next
  pub size : length next.body ≡ BODY_LENGTH
  pub free : are_pages (numbers ++ live) ≡ true
  pub lowest : AreLowest live numbers
  pub some : 0 < length numbers
  pub makes : MakesNext base numbers fresh next
  pub room : length fresh ≡ PAGE_SIZE * length numbers
  pub changes : numbers ≡ changed_pages base next
  pub pages : KeepsPages base records next

-- a plan for the live root, of a commit over this base
pub record Plans (current base : Saved) (records : List ℕ) (more : ℕ) (next : Saved) (numbers fresh : List ℕ) : Type 0 where
  pub follows : IsNextRoot base records more next
  pub plan : IsPlan (Pages 0) current next numbers fresh
  pub room : length fresh ≡ PAGE_SIZE * length numbers
  pub changes : numbers ≡ changed_pages base next
  pub had : HasDataPages current (data_of current)
  pub pages : KeepsPages base records next

-- the root behind one of this body with more operations, its stream on these pages
pub record IsGrown (body : List ℕ) (more : ℕ) (data_pages tables : List ℕ) (next : Saved) : Type 0 where
  pub has : HasDataPages next data_pages
  pub has_tables : tables_of next.body ≡ tables
  pub format : format_of next.body ≡ newest
  pub version : version_of next.body ≡ version_of body + 1
  pub replica : replica_of next.body ≡ replica_of body
  pub count : count_of next.body ≡ count_of body + more

-- with zeros behind, up to a size
abbrev pub padded : ℕ → List ℕ → List ℕ
padded size bytes = bytes ++ replicate (size - length bytes) 0

-- Records of more operations may come behind a base with this stream and these data pages. It is the live root, or has no pages. The
-- live root's pages are in memory and none is taken for a commit, and there is a further version, and room.
pub record TakesRecords (current base : Paged) (index : Index) (stream data_pages records : List ℕ) (more : ℕ) : Type 0 where
  pub is_index : IsIndexOf current index
  pub none_taken : index.taken ≡ []
  pub is_base : (base ≡ current) ⊎ (base.pages ≡ [])
  pub had : HasDataPages (with_stream base stream) data_pages
  pub some : is_zero records ≡ false
  pub room : length stream + length records ≤ MAX_STREAM_LENGTH
  pub version : version_of base.body < MAX_VERSION
  pub count : count_of base.body + more ≤ MAX_OPERATIONS

-- A commit of these records may begin over the live root, or over the same without its stream.
pub record TakesCommit (current : Paged) (index : Index) (stream : List ℕ) (whole : Bool) (records : List ℕ) (more : ℕ) : Type 0 where
  pub is_index : IsIndexOf current index
  pub none_taken : index.taken ≡ []
  pub long : length stream ≡ stream_length_of current.body
  pub some : is_zero records ≡ false
  pub room : length (base_of whole (with_stream current stream)).stream + length records ≤ MAX_STREAM_LENGTH
  pub version : version_of current.body < MAX_VERSION
  pub count : count_of current.body + more ≤ MAX_OPERATIONS

-- a stream of this length takes as many data pages and table pages, and none of them is there twice
pub record HasPagesFor (long : ℕ) (tables data_pages : List ℕ) : Type 0 where
  pub most : long ≤ MAX_STREAM_LENGTH
  pub data_count : length data_pages ≡ pages_for PAGE_SIZE long
  pub table_count : length tables ≡ pages_for TABLE_ENTRIES (length data_pages)
  pub apart : are_pages (tables ++ data_pages) ≡ true
