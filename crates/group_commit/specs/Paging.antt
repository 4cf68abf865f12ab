-- How the pages of a store's file go with its roots.
use Rattle.std.specs.Prelude.{◌≡◌, ◌≢◌, ℕ, ◌+◌, ◌/◌, ◌<◌, ◌≤◌, Bool, true, false, List, [], ◌++◌, length, take, drop, Result, OnOk}
use Rattle.fixed_numbers.specs.declared.sizes.TheConstants.{TABLE_ENTRIES}
use Rattle.page_file.specs.Index.{Index, is_free, with_taken}
use Rattle.root_slots.specs.Root.{tables_of}
use Rattle.group_commit.specs.Saved.{Paged}
use Rattle.group_commit.specs.declared.phase.Phase.{Phase}
use Rattle.group_commit.specs.declared.phase.Phase.TheVariants.{Idle, Pages}

-- the live pages are those of this root
pub record IsIndexOf (root : Paged) (index : Index) : Type 0 where
  pub tables : index.tables ≡ tables_of root.body
  pub live : index.tables ++ index.data_pages ≡ root.pages

-- of the new pages of a commit, those that are taken in a phase
abbrev pub taken_in : Phase → List ℕ → List ℕ
taken_in Idle numbers = []
taken_in (Pages k) numbers = take k numbers
taken_in phase numbers = numbers

-- The next root keeps the first data pages of the live one, and the table pages that name these alone. The first new pages come
-- behind these data pages, the others behind these tables.
pub record IsRenewed (kept new_data : ℕ) (numbers : List ℕ) (index : Index) (next : Paged) : Type 0 where
  pub tables : tables_of next.body ≡ take (kept / TABLE_ENTRIES) index.tables ++ drop new_data numbers
  pub pages : next.pages
      ≡ (take (kept / TABLE_ENTRIES) index.tables ++ drop new_data numbers) ++ (take kept index.data_pages ++ take new_data numbers)
  pub tables_within : kept / TABLE_ENTRIES ≤ length index.tables
  pub within : kept ≤ length index.data_pages
  pub new_within : new_data ≤ length numbers

-- The live pages are those of the live root, and the new pages so far are taken, with room for the others.
pub record IsPaging (phase : Phase) (failed : Bool) (numbers : List ℕ) (kept new_data : ℕ) (current next : Paged) (index : Index)
    : Type 0 where
  pub is_index : IsIndexOf current index
  pub taken : failed ≡ false → index.taken ≡ taken_in phase numbers
  pub room : failed ≡ false → (k : ℕ) → phase ≡ Pages k → length numbers ≤ k + index.room
  pub renews : phase ≢ Idle → IsRenewed kept new_data numbers index next

-- a page is free, and there is room to take it
pub record CanTake (number : ℕ) (index : Index) : Type 0 where
  pub free : is_free number index ≡ true
  pub room : 0 < index.room

-- a page was taken, unless it was refused, and the live pages stay
pub record TakesPage {T E : Type 0} (result : Result T E) (number : ℕ) (old new : Index) : Type 0 where
  pub taken : OnOk result (new ≡ with_taken number old)
  pub tables : new.tables ≡ old.tables
  pub data_pages : new.data_pages ≡ old.data_pages
