-- Which pages of a file are live, and which are taken for the next root.
use Rattle.std.specs.Prelude.{◌≡◌, ℕ, ◌+◌, ◌-◌, ◌*◌, ◌<◌, ◌≤◌, Bool, true, not, ◌&&◌, nat_le, List, [], ◌∷◌, ◌++◌, length, take, drop}
use Rattle.page_file.specs.Pages.{has, are_pages}
use Rattle.page_file.specs.Gaps.{in_gaps, are_falling}
use Rattle.page_file.specs.declared.gaps.Gap.{Gap}

-- the table pages and the data pages of the live root, the pages that are taken for the next root, and for how many more of
-- these there is room
pub record Index : Type 0 where
  pub tables : List ℕ
  pub data_pages : List ℕ
  pub taken : List ℕ
  pub room : ℕ

-- the pages of the live root
abbrev pub live_pages : Index → List ℕ
live_pages index = index.tables ++ index.data_pages

-- the pages that are taken, and the live ones
abbrev pub used : Index → List ℕ
used index = index.taken ++ (index.tables ++ index.data_pages)

-- lies behind the root slots, and is neither taken nor live
abbrev pub is_free : ℕ → Index → Bool
is_free n index = nat_le 2 n && not (has n (used index))

-- with one more page taken, from its room
abbrev pub with_taken : ℕ → Index → Index
with_taken n index =
    record { tables = index.tables; data_pages = index.data_pages; taken = index.taken ++ n ∷ []; room = index.room - 1 }

-- the same with other room
abbrev pub with_room : ℕ → Index → Index
with_room room index =
    record { tables = index.tables; data_pages = index.data_pages; taken = index.taken; room = room }

-- Only the first tables and the first data pages stay live. Of the taken pages the first ones come behind these data pages,
-- the others behind these tables.
abbrev pub adopted : ℕ → ℕ → ℕ → Index → Index
adopted kept_tables kept_data new_data index = record {
  tables = take kept_tables index.tables ++ drop new_data index.taken;
  data_pages = take kept_data index.data_pages ++ take new_data index.taken;
  taken = [];
  room = index.room;
}

-- these pages lie behind the root slots, none of them is there twice, and the ranges have all others
pub record AreOthers (pages : List ℕ) (gaps : List Gap) : Type 0 where
  pub apart : are_pages pages ≡ true
  pub falling : are_falling 4294967296 gaps ≡ true
  pub free : (m : ℕ) → m < 4294967296 → in_gaps m gaps ≡ (nat_le 2 m && not (has m pages))

-- the live pages are these tables and count data pages, none of them twice, and none is taken
pub record IsAtRest (tables : List ℕ) (count : ℕ) (index : Index) : Type 0 where
  pub has_tables : index.tables ≡ tables
  pub has_count : length index.data_pages ≡ count
  pub apart : are_pages (live_pages index) ≡ true
  pub none_taken : index.taken ≡ []
  pub no_room : index.room ≡ 0

-- Lists of tables, data pages, taken pages and ranges, of these lengths, fit their memory, and so will those of the next root; room is
-- the number of its further pages.
pub record HasRoomForPages (room tables data_pages taken gaps tables_most data_most taken_most gaps_most : ℕ) : Type 0 where
  pub for_tables : tables + (taken + room) ≤ tables_most
  pub for_data : data_pages + (taken + room) ≤ data_most
  pub for_taken : taken + room ≤ taken_most
  pub for_gaps : gaps + (tables + data_pages + taken + 2 * room) ≤ gaps_most
