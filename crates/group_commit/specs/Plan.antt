-- What a commit makes of a root.
use Rattle.std.specs.Prelude.{◌≡◌, ℕ, ◌+◌, ◌-◌, ◌*◌, ◌/◌, List, ◌++◌, length, take, if◌then◌else◌}
use Rattle.fixed_numbers.specs.declared.sizes.TheConstants.{PAGE_SIZE, TABLE_ENTRIES}
use Rattle.page_file.specs.Pages.{is_zero}
use Rattle.change_codec.specs.declared.format.Format.{Format}
use Rattle.change_codec.specs.declared.format.Format.TheVariants.{Third}
use Rattle.root_slots.specs.Root.{format_of, version_of, replica_of, count_of, tables_of, pages_for}
use Rattle.group_commit.specs.Changes.{data_of, changed_data, changed_tables}
use Rattle.group_commit.specs.Saved.{Saved, HasDataPages}

-- the format that a commit writes, whatever the format of the root before it
abbrev pub newest : Format
newest = Third

-- the root behind this one: it is of the newest format, its stream has more records at its end, and as many more operations
pub record IsNextRoot (current : Saved) (records : List ℕ) (more : ℕ) (next : Saved) : Type 0 where
  pub format : format_of next.body ≡ newest
  pub stream : next.stream ≡ current.stream ++ records
  pub version : version_of next.body ≡ version_of current.body + 1
  pub replica : replica_of next.body ≡ replica_of current.body
  pub count : count_of next.body ≡ count_of current.body + more

-- How many data pages stay, behind a stream of this length: all of them, or all but the last one where what comes into its rest
-- isn't zero.
abbrev pub kept_of : ℕ → List ℕ → ℕ
kept_of long records =
    if is_zero (take (PAGE_SIZE * pages_for PAGE_SIZE long - long) records) then pages_for PAGE_SIZE long else pages_for PAGE_SIZE long - 1

-- Which pages the root behind this one reaches: the data pages that stay and those that are written, and the table pages that name
-- pages that stay alone and those that are written. Both have as many data pages as their streams take.
-- For example, one data page, 3, is half full, and is named by the table page 2. A commit appends records of ten bytes. They come into
-- the rest of page 3, which is live and so isn't written over: no page stays (`kept_of` is 0). The next stream fits one page, whose
-- bytes differ, so `changed_data` is that page under a free number, say 4; its table page names 4 in place of 3, so `changed_tables`
-- is a new table page, say 5. The next root reaches 5 and 4, and the commit writes just these (`changed_pages`).
-- Where the root before has no stream, no page stays, and all data pages and table pages are new.
pub record KeepsPages (current : Saved) (records : List ℕ) (next : Saved) : Type 0 where
  pub has : HasDataPages next (data_of next)
  pub data_pages : data_of next ≡ take (kept_of (length current.stream) records) (data_of current) ++ changed_data current next
  pub tables : tables_of next.body
      ≡ take (kept_of (length current.stream) records / TABLE_ENTRIES) (tables_of current.body) ++ changed_tables current next
