-- A root as a file has it.
use Rattle.std.specs.Prelude.{◌≡◌, ℕ, ◌*◌, ◌/◌, Bool, true, List, [], ◌++◌, length, drop, if◌then◌else◌}
use Rattle.fixed_numbers.specs.declared.sizes.TheConstants.{PAGE_SIZE}
use Rattle.page_file.specs.Pages.{are_pages}
use Rattle.root_slots.specs.Root.{is_root, version_of, replica_of, count_of, tables_of, data_count, stream_length_of, pages_for}
use Rattle.root_slots.specs.Body.{Root, Spells}

-- a root: the body of its slot, the bytes of its stream, and the pages that it reaches
pub record Saved : Type 0 where
  pub body : List ℕ
  pub stream : List ℕ
  pub pages : List ℕ

-- a root without the bytes of its stream
pub record Paged : Type 0 where
  pub body : List ℕ
  pub pages : List ℕ

-- a root with its stream
abbrev pub with_stream : Paged → List ℕ → Saved
with_stream root bytes = record { body = root.body; stream = bytes; pages = root.pages }

-- the same root without its stream and its pages
abbrev pub emptied : Saved → Saved
emptied root = record root { stream = []; pages = [] }

-- what a commit builds on: the live root, or the same without its stream where the commit writes the whole list anew
abbrev pub base_of : Bool → Saved → Saved
base_of whole current = if whole then emptied current else current

-- the bytes of a stream behind its full pages: fewer than 4,096, and none where it ends at a page's end
abbrev pub tail_of : List ℕ → List ℕ
tail_of bytes = drop (PAGE_SIZE * (length bytes / PAGE_SIZE)) bytes

-- a root has as many data pages as its stream takes, and none of its pages is there twice
pub record IsInMemory (head : Root) (data_pages : List ℕ) : Type 0 where
  pub count : length data_pages ≡ pages_for PAGE_SIZE head.stream_length
  pub apart : are_pages (head.tables ++ data_pages) ≡ true

-- a root in memory: its body says its head
pub record IsPaged (head : Root) (data_pages : List ℕ) (root : Paged) : Type 0 where
  pub spells : Spells root.body head
  pub reaches : root.pages ≡ head.tables ++ data_pages
  pub parts : IsInMemory head data_pages

-- these are the data pages of a root, and its other pages are its tables
pub record HasDataPages (root : Saved) (data_pages : List ℕ) : Type 0 where
  pub valid : is_root root.body ≡ true
  pub reaches : root.pages ≡ tables_of root.body ++ data_pages
  pub count : length data_pages ≡ data_count root.body
  pub apart : are_pages root.pages ≡ true
  pub long : length root.stream ≡ stream_length_of root.body

-- a root of the same version, replica and number of operations, without a stream
pub record IsEmptied (root empty : Paged) : Type 0 where
  pub version : version_of empty.body ≡ version_of root.body
  pub replica : replica_of empty.body ≡ replica_of root.body
  pub count : count_of empty.body ≡ count_of root.body
  pub no_tables : tables_of empty.body ≡ []
  pub has : HasDataPages (with_stream empty []) []
