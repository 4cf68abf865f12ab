-- What a root body says, and the bytes that say it.
use Rattle.std.specs.Prelude.{◌≡◌, ℕ, ◌-◌, ◌*◌, ◌≤◌, true, if◌then◌else◌, List, ◌++◌, length, replicate, Option, Some, None}
use Rattle.std.specs.Int.{w32, w64, w128, to_be_bytes}
use Rattle.fixed_numbers.specs.declared.limits.TheConstants.{MAX_OPERATIONS, MAX_STREAM_LENGTH}
use Rattle.fixed_numbers.specs.declared.sizes.TheConstants.{BODY_LENGTH, PAGE_SIZE, TABLE_ENTRIES}
use Rattle.page_file.specs.Pages.{are_pages, number_bytes}
use Rattle.change_codec.specs.declared.format.Format.{Format}
use Rattle.root_slots.specs.declared.root_head.RootHead.{RootHead}
use Rattle.root_slots.specs.Root.{magic, format_of, version_of, replica_of, stream_length_of, count_of, tables_of, pages_for, is_root}

-- the fields of a root body
pub record Root : Type 0 where
  -- of the stream
  pub format : Format
  pub version : ℕ
  pub replica : ℕ
  pub stream_length : ℕ
  pub operations : ℕ
  pub tables : List ℕ

-- the root with this head and these table pages
abbrev pub root_with : RootHead → List ℕ → Root
root_with head tables =
    record { format = head.format; version = head.version; replica = head.replica; stream_length = head.stream_length; operations = head.operations; tables = tables }

-- what the bytes say, if they are a root body
abbrev pub root_of : List ℕ → Root
root_of body =
    record { format = format_of body; version = version_of body; replica = replica_of body; stream_length = stream_length_of body; operations = count_of body; tables = tables_of body }

-- the root that the bytes are, or none
unfoldable pub root_in : List ℕ → Option Root
root_in body = if is_root body then Some (root_of body) else None

-- how many table pages a stream of stream_length bytes needs
abbrev pub tables_for : ℕ → ℕ
tables_for stream_length = pages_for TABLE_ENTRIES (pages_for PAGE_SIZE stream_length)

-- the fields of a root lie in their ranges, and there are as many table pages as the stream needs, each of them once
pub record IsRoot (root : Root) : Type 0 where
  pub version : 1 ≤ root.version
  pub stream : root.stream_length ≤ MAX_STREAM_LENGTH
  pub operations : root.operations ≤ MAX_OPERATIONS
  pub tables : length root.tables ≡ tables_for root.stream_length
  pub pages : are_pages root.tables ≡ true

-- the 56 bytes before the table page numbers
unfoldable pub head_bytes : Format → ℕ → ℕ → ℕ → ℕ → ℕ → List ℕ
head_bytes format version replica stream_length operations tables =
    to_be_bytes w64 (magic format) ++ to_be_bytes w64 version ++ to_be_bytes w128 replica ++ to_be_bytes w64 stream_length
    ++ to_be_bytes w64 operations ++ to_be_bytes w32 tables ++ to_be_bytes w32 0

-- the bytes of a root, BODY_LENGTH of them: the rest is zero
unfoldable pub body_bytes : Root → List ℕ
body_bytes root =
    head_bytes root.format root.version root.replica root.stream_length root.operations (length root.tables) ++ number_bytes root.tables
    ++ replicate (BODY_LENGTH - 56 - 4 * length root.tables) 0

-- the bytes are a root body, and say this
pub record Spells (body : List ℕ) (root : Root) : Type 0 where
  pub valid : is_root body ≡ true
  pub says : root_of body ≡ root
