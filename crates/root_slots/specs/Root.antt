-- The body of a root slot: the 4,088 bytes from byte 8 of its page on.
use Rattle.std.specs.Prelude.{ℕ, ◌*◌, ◌+◌, ◌-◌, ◌/◌, ◌==◌, Bool, ◌&&◌, ◌||◌, nat_le, if◌then◌else◌, List, length, drop}
use Rattle.std.specs.Int.{w32, w64, w128, from_be_bytes}
use Rattle.fixed_numbers.specs.declared.limits.TheConstants.{MAX_OPERATIONS, MAX_STREAM_LENGTH}
use Rattle.fixed_numbers.specs.declared.sizes.TheConstants.{BODY_LENGTH, PAGE_SIZE, TABLE_ENTRIES}
use Rattle.change_codec.specs.declared.format.Format.{Format}
use Rattle.change_codec.specs.declared.format.Format.TheVariants.{First, Second, Third}
use Rattle.disk_trait.specs.File.{part}
use Rattle.page_file.specs.Pages.{is_zero, are_pages, numbers}

-- n bytes of the body, where their place is counted from the first byte of the page
abbrev pub field : List ℕ → ℕ → ℕ → List ℕ
field body at n = part body (at - 8) n

-- `PTXTPG01`, `PTXTPG02` and `PTXTPG03`, read as numbers: the last digit is the format of the stream
abbrev pub magic : Format → ℕ
magic First = 5788348540225269809
magic Second = 5788348540225269810
magic Third = 5788348540225269811

abbrev pub magic_of : List ℕ → ℕ
magic_of body = from_be_bytes w64 (field body 8 8)

-- the number is the magic of a format
abbrev pub is_magic : ℕ → Bool
is_magic n = n == magic First || n == magic Second || n == magic Third

-- the format whose magic the number is
abbrev pub named_format : ℕ → Format
named_format n = if n == magic First then First else if n == magic Second then Second else Third

-- the format of the stream
abbrev pub format_of : List ℕ → Format
format_of body = named_format (magic_of body)

-- how often a root was made in this file; of two open slots the one with the greater version is live
abbrev pub version_of : List ℕ → ℕ
version_of body = from_be_bytes w64 (field body 16 8)

abbrev pub replica_of : List ℕ → ℕ
replica_of body = from_be_bytes w128 (field body 24 16)

-- how many bytes the stream of operations has
abbrev pub stream_length_of : List ℕ → ℕ
stream_length_of body = from_be_bytes w64 (field body 40 8)

-- how many operations there are
abbrev pub count_of : List ℕ → ℕ
count_of body = from_be_bytes w64 (field body 48 8)

abbrev pub table_count : List ℕ → ℕ
table_count body = from_be_bytes w32 (field body 56 4)

abbrev pub gap_of : List ℕ → ℕ
gap_of body = from_be_bytes w32 (field body 60 4)

-- the numbers of the table pages, in order
abbrev pub tables_of : List ℕ → List ℕ
tables_of body = numbers (table_count body) (drop 56 body)

-- how many pages of a size it takes for so much: the quotient, rounded up
abbrev pub pages_for : ℕ → ℕ → ℕ
pages_for size n = (n + (size - 1)) / size

-- how many data pages the stream takes
abbrev pub data_count : List ℕ → ℕ
data_count body = pages_for PAGE_SIZE (stream_length_of body)

-- the bytes are a root body: the magic is one of the three, the numbers lie in their ranges, there are as many table pages as the stream needs, each of them
-- once, and what is left is zero
abbrev pub is_root : List ℕ → Bool
is_root body =
    length body == BODY_LENGTH && is_magic (magic_of body) && nat_le 1 (version_of body) && nat_le 1 (replica_of body)
    && nat_le (stream_length_of body) MAX_STREAM_LENGTH && nat_le (count_of body) MAX_OPERATIONS
    && table_count body == pages_for TABLE_ENTRIES (data_count body) && gap_of body == 0
    && are_pages (tables_of body) && is_zero (drop (56 + 4 * table_count body) body)
