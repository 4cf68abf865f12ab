-- What a file of pages stands for, before its records are read: the body of its live slot, and the stream of bytes that the
-- pages hold which that body names.
use Rattle.std.specs.Prelude.{◌≡◌, ℕ, Bool, not, ◌&&◌, List, ◌++◌, drop, take, Result, Ok, Err, if◌then◌else◌}
use Rattle.fixed_numbers.specs.declared.refusals.TheConstants.{BAD_ROOT, BAD_STREAM, BAD_TABLE}
use Rattle.page_file.specs.Pages.{pages, are_whole, is_zero, are_pages, joined}
pub use Rattle.page_file.specs.Tables.{entries}
use Rattle.root_slots.specs.Root.{is_root, tables_of, data_count, stream_length_of}
use Rattle.root_slots.specs.Slots.{body, live}

-- the data pages that a body and its table pages name, in the order of the stream
abbrev pub data_pages_in : List ℕ → List (List ℕ) → List ℕ
data_pages_in root tables = take (data_count root) (entries tables)

-- the table pages are as they have to be: no numbers behind those of the data pages, and no page twice
abbrev pub are_tables : List ℕ → List (List ℕ) → Bool
are_tables root tables =
    is_zero (drop (data_count root) (entries tables)) && are_pages (tables_of root ++ data_pages_in root tables)

-- the stream in these data pages, of which the last one is filled with zeros; or bad root 43, bad table 45, bad stream 46
abbrev pub stream_in : List ℕ → List (List ℕ) → List (List ℕ) → Result (List ℕ) ℕ
stream_in root tables data_pages =
    if not (is_root root && are_whole tables) then Err BAD_ROOT
    else if not (are_tables root tables && are_whole data_pages) then Err BAD_TABLE
    else if not (is_zero (drop (stream_length_of root) (joined data_pages))) then Err BAD_STREAM
    else Ok (take (stream_length_of root) (joined data_pages))

-- the table pages that a body names
abbrev pub tables_in : List ℕ → List ℕ → List (List ℕ)
tables_in file root = pages (tables_of root) file

-- the stream that a body stands for in a file, or the first rule that is broken
abbrev pub stream : List ℕ → List ℕ → Result (List ℕ) ℕ
stream file root = stream_in root (tables_in file root) (pages (data_pages_in root (tables_in file root)) file)

-- the pages that a body reaches in a file
abbrev pub pages_reached : List ℕ → List ℕ → List ℕ
pages_reached file root = tables_of root ++ data_pages_in root (tables_in file root)

abbrev pub root_and_stream : List ℕ → Result (List ℕ) ℕ → Result (List ℕ × List ℕ) ℕ
root_and_stream root (Ok bytes) = Ok (root, bytes)
root_and_stream root (Err n) = Err n

abbrev pub in_slot : List ℕ → Result ℕ ℕ → Result (List ℕ × List ℕ) ℕ
in_slot file (Ok slot) = root_and_stream (body slot file) (stream file (body slot file))
in_slot file (Err n) = Err n

-- the live body of a file and its stream; or the first fault: no root 42, bad root 43, bad table 45, bad stream 46
abbrev pub stored : List ℕ → Result (List ℕ × List ℕ) ℕ
stored file = in_slot file (live file)

-- in this file the body stands for these bytes, and reaches these pages
pub record Stores (root bytes ns file : List ℕ) : Type 0 where
  pub spells : stream file root ≡ Ok bytes
  pub reaches : pages_reached file root ≡ ns
