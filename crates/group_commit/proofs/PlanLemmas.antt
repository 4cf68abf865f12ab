-- A plan for the root behind a base: which pages stay, which are written anew, and that these make the new root.
use Rattle.std.proofs.Common.{◌≡◌, ℕ, ◌+◌, ◌-◌, ◌*◌, ◌/◌, ◌<◌, ◌≤◌, ◌^◌, Bool, true, false, ◌||◌}
use Rattle.std.proofs.Common.{List, ◌++◌, length, get_or, take, drop, refl, sym, ap, ◌∙◌, inl, inr}
use Rattle.std.proofs.Common.{arith, length-append, length-take, length-drop}
use Rattle.std.specs.Prelude.{replicate}
use Rattle.std.proofs.Math.Seq.{drop-append-add}
use Rattle.std.proofs.lemmas.Bool.{cases_lt}
use Rattle.std.proofs.lemmas.List.{drop_at, drop_all, drop-append-le, length-replicate, get_or-drop, get_or_append_left}
use Rattle.page_file.specs.Free.{AreLowest}
use Rattle.page_file.specs.Pages.{pages, has, are_pages, is_zero, joined, number_bytes}
use Rattle.page_file.proofs.Apart.{has-append, apart_first, apart_each, each_behind}
use Rattle.page_file.proofs.Joining.{renewed_apart}
use Rattle.page_file.proofs.NumberLemmas.{length-number_bytes}
use Rattle.root_slots.specs.Root.{tables_of, table_count, pages_for}
use Rattle.root_slots.proofs.HeadLemmas.{length-tables}
use Rattle.root_slots.proofs.SpellingLemmas.{all_words}
use Rattle.group_commit.specs.Saved.{Saved, HasDataPages}
use Rattle.group_commit.specs.Changes.{cut, changed, parts, data_of, changed_data, changed_tables}
use Rattle.group_commit.specs.Standing.{MakesNext}
use Rattle.group_commit.specs.Plan.{IsNextRoot, KeepsPages, kept_of}
use Rattle.group_commit.specs.Planning.{Prepares, padded}
use Rattle.group_commit.proofs.CutLemmas.{cut_changed}
use Rattle.group_commit.proofs.KeptLemmas.{kept_is, more_pages, data_front, data_stays, tables_stay, pages_hold}
use Rattle.group_commit.proofs.ManyPages.{length-pages, length-joined}
use Rattle.group_commit.proofs.Renewing.{Renews, renewed}
use Rattle.group_commit.proofs.Roots.{HasBoth, stored_by, both_of, root_size, root_tables}

-- the data pages of a root are those behind its tables
pub data_is : (root : Saved) (data_pages : List ℕ) → HasDataPages root data_pages → data_of root ≡ data_pages
data_is root data_pages has_data =
    ap (drop (table_count root.body)) has_data.reaches ∙ drop_at (tables_of root.body) data_pages (table_count root.body) (length-tables root.body)

-- the next root: its stream goes on, the first pages stay and the others are these
pub record Follows (base next : Saved) (records : List ℕ) (more kept : ℕ) (olds new_data new_tables : List ℕ) : Type 0 where
  pub had : HasDataPages base olds
  pub is_next : IsNextRoot base records more next
  pub has_data : HasDataPages next (take kept olds ++ new_data)
  pub tables : tables_of next.body ≡ take (kept / 1024) (tables_of base.body) ++ new_tables
  pub kept_so : kept ≡ kept_of (length base.stream) records
  pub some : is_zero records ≡ false
  pub free : are_pages ((new_data ++ new_tables) ++ base.pages) ≡ true

module _ (base next : Saved) (records : List ℕ) (more kept : ℕ) (olds new_data new_tables : List ℕ)
    (f : Follows base next records more kept olds new_data new_tables) where
  old_count : length olds ≡ pages_for 4096 (length base.stream)
  old_count = f.had.count ∙ ap (pages_for 4096) (sym f.had.long)

  within : kept ≤ length olds
  within = elim (kept_is (length base.stream) records kept f.kept_so) [
    | inl stay ↦ omega (arith, stay.all, old_count)
    | inr change ↦ omega (arith, change.others, old_count)
  ]

  near : length olds ≤ kept + 1
  near = elim (kept_is (length base.stream) records kept f.kept_so) [
    | inl stay ↦ omega (arith, stay.all, old_count)
    | inr change ↦ omega (arith, change.others, old_count)
  ]

  long : length next.stream ≡ length base.stream + length records
  long = ap length f.is_next.stream ∙ length-append base.stream records

  all_count : kept + length new_data ≡ pages_for 4096 (length next.stream)
  all_count =
      let size = f.has_data.count ∙ ap (pages_for 4096) (sym f.has_data.long) in
      omega (arith, size, length-append (take kept olds) new_data, length-take kept olds, within)

  goes_on : 4096 * kept < length next.stream
  goes_on = omega (arith, more_pages (length base.stream) records kept f.kept_so f.some, long)

  some_new : 0 < length new_data
  some_new = omega (arith, goes_on, all_count, pages_hold (length next.stream))

  old_tables : length (tables_of base.body) ≡ pages_for 1024 (length olds)
  old_tables = root_tables base.body f.had.valid ∙ ap (pages_for 1024) (sym f.had.count)

  tables_within : kept / 1024 ≤ length (tables_of base.body)
  tables_within = within_count kept (length olds) (length (tables_of base.body)) within old_tables
    where
      within_count : (kept p t : ℕ) → kept ≤ p → t ≡ pages_for 1024 p → kept / 1024 ≤ t
      within_count kept p t le is = omega (arith, le, is)

  table_total : kept / 1024 + length new_tables ≡ pages_for 1024 (length (take kept olds ++ new_data))
  table_total =
      let all = root_tables next.body f.has_data.valid ∙ ap (pages_for 1024) (sym f.has_data.count) in
      let size = ap length f.tables ∙ length-append (take (kept / 1024) (tables_of base.body)) new_tables in
      omega (arith, all, size, length-take (kept / 1024) (tables_of base.body), tables_within)

  data_total : length (take kept olds ++ new_data) ≡ kept + length new_data
  data_total = omega (arith, length-append (take kept olds) new_data, length-take kept olds, within)

  -- a new page is no old one
  is_new : has (get_or new_data 0 0) olds ≡ false
  is_new =
      let first : get_or (new_data ++ new_tables) 0 0 ≡ get_or new_data 0 0 = get_or_append_left new_data new_tables 0 0 some_new in
      let lacks = apart_each (new_data ++ new_tables) base.pages 0 f.free (omega (arith, some_new, length-append new_data new_tables)) in
      let there : has (get_or new_data 0 0) (tables_of base.body ++ olds) ≡ false =
      ap (λ n. has n (tables_of base.body ++ olds)) (sym first) ∙ ap (λ ns. has (get_or (new_data ++ new_tables) 0 0) ns) (sym f.had.reaches) ∙ lacks in
      second (has (get_or new_data 0 0) (tables_of base.body)) (has (get_or new_data 0 0) olds) (sym (has-append (get_or new_data 0 0) (tables_of base.body) olds) ∙ there)
    where
      second : (a b : Bool) → (a || b) ≡ false → b ≡ false
      second true b is = absurd cc
      second false b is = is

  behind_slots : 2 ≤ get_or new_data 0 0
  behind_slots = each_behind new_data 0 (apart_first new_data new_tables (apart_first (new_data ++ new_tables) base.pages f.free)) some_new

  -- the data pages that are written anew
  new_data_are : changed_data base next ≡ new_data
  unfolding changed_data parts
  new_data_are =
      ap (λ ns. changed (cut 4096 (pages_for 4096 (length base.stream)) (base.stream ++ replicate 4096 0))
      (cut 4096 (pages_for 4096 (length next.stream)) (next.stream ++ replicate 4096 0)) ns) (data_is next (take kept olds ++ new_data) f.has_data)
      ∙ cut_changed 4096 kept (pages_for 4096 (length base.stream)) (pages_for 4096 (length next.stream)) (base.stream ++ replicate 4096 0) (next.stream ++ replicate 4096 0)
      (take kept olds) new_data
      (rw (f.is_next.stream) (data_stays base.stream records kept f.kept_so))
      (omega (arith, length-take kept olds, within)) all_count (omega (arith, long))

  -- the table pages that are written anew
  new_tables_are : changed_tables base next ≡ new_tables
  unfolding changed_tables parts
  new_tables_are =
      let mine = data_is base olds f.had in
      let its = data_is next (take kept olds ++ new_data) f.has_data in
      ap (λ ns. changed (cut 1024 (pages_for 1024 (length ns)) (ns ++ replicate 1024 0)) (cut 1024 (pages_for 1024 (length (data_of next))) (data_of next ++ replicate 1024 0)) (tables_of next.body)) mine
      ∙ ap (λ ns. changed (cut 1024 (pages_for 1024 (length olds)) (olds ++ replicate 1024 0)) (cut 1024 (pages_for 1024 (length ns)) (ns ++ replicate 1024 0)) (tables_of next.body)) its
      ∙ ap (λ ns. changed (cut 1024 (pages_for 1024 (length olds)) (olds ++ replicate 1024 0))
      (cut 1024 (pages_for 1024 (length (take kept olds ++ new_data))) ((take kept olds ++ new_data) ++ replicate 1024 0)) ns) f.tables
      ∙ cut_changed 1024 (kept / 1024) (pages_for 1024 (length olds)) (pages_for 1024 (length (take kept olds ++ new_data))) (olds ++ replicate 1024 0) ((take kept olds ++ new_data) ++ replicate 1024 0)
      (take (kept / 1024) (tables_of base.body)) new_tables
      (tables_stay olds new_data kept within near some_new is_new behind_slots)
      (omega (arith, length-take (kept / 1024) (tables_of base.body), tables_within)) table_total (more_tables (length olds) (length (take kept olds ++ new_data)) (omega (arith, data_total, near, some_new)))
    where
      more_tables : (p p' : ℕ) → p ≤ p' → pages_for 1024 p ≤ pages_for 1024 p'
      more_tables p p' le = omega (arith, le)

  -- the bytes of the new pages
  abbrev data_bytes : List ℕ
  data_bytes = padded (4096 * length new_data) (drop (4096 * kept) next.stream)

  abbrev table_bytes : List ℕ
  table_bytes = padded (4096 * length new_tables) (number_bytes (drop (1024 * (kept / 1024)) (take kept olds ++ new_data)))

  data_room : length (drop (4096 * kept) next.stream) ≤ 4096 * length new_data
  data_room = omega (arith, length-drop (4096 * kept) next.stream, all_count, pages_hold (length next.stream))

  named_more : length (drop (1024 * (kept / 1024)) (take kept olds ++ new_data)) ≤ 1024 * length new_tables
  named_more = room_for (length (take kept olds ++ new_data)) (length new_tables) _ (length-drop (1024 * (kept / 1024)) (take kept olds ++ new_data)) table_total
    where
      room_for : (p t l : ℕ) → l ≡ p - 1024 * (kept / 1024) → kept / 1024 + t ≡ pages_for 1024 p → l ≤ 1024 * t
      room_for p t l size is = omega (arith, size, is)

  table_room : length (number_bytes (drop (1024 * (kept / 1024)) (take kept olds ++ new_data))) ≤ 4096 * length new_tables
  table_room = omega (arith, named_more, length-number_bytes (drop (1024 * (kept / 1024)) (take kept olds ++ new_data)))

  length-filled : (size : ℕ) (bytes : List ℕ) → length bytes ≤ size → length (padded size bytes) ≡ size
  length-filled size bytes fits = omega (arith, length-append bytes (replicate (size - length bytes) 0), length-replicate {A = ℕ} (size - length bytes) 0, fits)

  renews : (y z : ℕ) → 4096 * pages_for 4096 (length base.stream) ≤ length base.stream + z → ((i : ℕ) → get_or (take kept olds ++ new_data) i 0 < 2 ^ 32)
      → Renews base.stream (tables_of base.body) olds z next.stream (4096 * pages_for 4096 (length next.stream) - length next.stream) kept (kept / 1024) new_data new_tables data_bytes table_bytes
      (1024 * length new_tables - length (drop (1024 * (kept / 1024)) (take kept olds ++ new_data)))
      (4096 * length new_tables - length (number_bytes (drop (1024 * (kept / 1024)) (take kept olds ++ new_data))))
  renews y z room small =
      let rest = drop (1024 * (kept / 1024)) (take kept olds ++ new_data) in
      let left : 4096 * length new_data - length (drop (4096 * kept) next.stream) ≡ 4096 * pages_for 4096 (length next.stream) - length next.stream =
      omega (arith, length-drop (4096 * kept) next.stream, all_count, goes_on, pages_hold (length next.stream)) in
      record {
        within = within;
        tables_within = tables_within;
        named_within = omega arith;
        same = rw (f.is_next.stream) (data_front base.stream records kept (z) (4096 * pages_for 4096 (length (base.stream ++ records)) - length (base.stream ++ records)) f.kept_so room
            (omega (arith, goes_on, ap length f.is_next.stream)));
        data_size = length-filled (4096 * length new_data) (drop (4096 * kept) next.stream) data_room;
        data_are = ap (λ n. drop (4096 * kept) next.stream ++ replicate n 0) left
            ∙ sym (drop-append-le (4096 * kept) next.stream (replicate (4096 * pages_for 4096 (length next.stream) - length next.stream) 0) (omega (arith, goes_on)));
        table_size = length-filled (4096 * length new_tables) (number_bytes rest) table_room;
        tables_are = refl;
        table_room = omega (arith, named_more);
        zeros_room = omega (arith, length-number_bytes rest);
        wide = all_words rest (λ i. rw (get_or-drop (1024 * (kept / 1024)) (take kept olds ++ new_data) i 0) (small (1024 * (kept / 1024) + i)));
      }

  makes : ((i : ℕ) → get_or (take kept olds ++ new_data) i 0 < 2 ^ 32) → MakesNext base (new_data ++ new_tables) (data_bytes ++ table_bytes) next
  makes small file keeps reads =
      let there = both_of base.body base.stream (tables_of base.body) olds file refl f.had.long (rw (f.had.reaches) at keeps) in
      let both : HasBoth base.body base.stream (tables_of base.body) olds there.0 there.1 file = there.2 in
      let bytes : length (joined (pages olds file)) ≡ 4096 * length olds = length-joined (pages olds file) both.whole_pages ∙ ap (λ n. 4096 * n) (length-pages olds file) in
      let room : 4096 * pages_for 4096 (length base.stream) ≤ length base.stream + there.1 =
      omega (arith, bytes, ap length both.holds, length-append base.stream (replicate there.1 0), length-replicate {A = ℕ} there.1 0, old_count) in
      let made = renewed base.body next.body base.stream (tables_of base.body) olds there.0 there.1 next.stream
      (4096 * pages_for 4096 (length next.stream) - length next.stream) kept (kept / 1024) new_data new_tables data_bytes table_bytes
      (1024 * length new_tables - length (drop (1024 * (kept / 1024)) (take kept olds ++ new_data)))
      (4096 * length new_tables - length (number_bytes (drop (1024 * (kept / 1024)) (take kept olds ++ new_data))))
      file both (renews there.0 there.1 room small) reads in
      rw (f.has_data.reaches)
      (stored_by next.body next.stream (tables_of next.body) (take kept olds ++ new_data)
      (1024 * length new_tables - length (drop (1024 * (kept / 1024)) (take kept olds ++ new_data)))
      (4096 * pages_for 4096 (length next.stream) - length next.stream) file f.has_data.valid (sym f.has_data.long) refl f.has_data.count
      (rw (f.has_data.reaches) at f.has_data.apart) (rw (f.tables) made))

  -- the pages that stay, and those that are written
  keeps_pages : KeepsPages base records next
  keeps_pages =
      let mine : data_of base ≡ olds = data_is base olds f.had in
      let its : data_of next ≡ take kept olds ++ new_data = data_is next (take kept olds ++ new_data) f.has_data in
      record {
        has = rw its f.has_data;
        data_pages = rw (sym f.kept_so, mine, new_data_are) its;
        tables = rw (sym f.kept_so, new_tables_are) f.tables;
      }

  pub plan_of : (live : List ℕ) → are_pages ((new_data ++ new_tables) ++ live) ≡ true → AreLowest live (new_data ++ new_tables)
      → ((i : ℕ) → get_or (take kept olds ++ new_data) i 0 < 2 ^ 32)
      → Prepares live base records more next (new_data ++ new_tables)
      (padded (4096 * length new_data) (drop (4096 * kept) next.stream)
      ++ padded (4096 * length new_tables) (number_bytes (drop (1024 * (kept / 1024)) (take kept olds ++ new_data))))
  plan_of live free lowest small = record {
    follows = f.is_next;
    size = root_size next.body f.has_data.valid;
    free = free;
    lowest = lowest;
    some = omega (arith, some_new, length-append new_data new_tables);
    makes = makes small;
    room = omega (
      arith,
      length-append data_bytes table_bytes,
      length-append new_data new_tables,
      length-filled (4096 * length new_data) (drop (4096 * kept) next.stream) data_room,
      length-filled (4096 * length new_tables) (number_bytes (drop (1024 * (kept / 1024)) (take kept olds ++ new_data))) table_room,
    );
    changes = ap (λ ns. ns ++ new_tables) (sym new_data_are) ∙ ap (λ ns. changed_data base next ++ ns) (sym new_tables_are);
    pages = keeps_pages;
  }

-- the new root's pages are apart
pub next_apart : (base : Saved) (olds new_data new_tables : List ℕ) (kept : ℕ) → HasDataPages base olds → are_pages ((new_data ++ new_tables) ++ base.pages) ≡ true
    → are_pages ((take (kept / 1024) (tables_of base.body) ++ new_tables) ++ (take kept olds ++ new_data)) ≡ true
next_apart base olds new_data new_tables kept had free =
    renewed_apart kept (kept / 1024) (tables_of base.body) olds new_data new_tables (rw (had.reaches) at free)

-- what stands behind a place of two lists, one after the other
pub drop_both : (n : ℕ) (a b : List ℕ) → drop n (a ++ b) ≡ drop n a ++ drop (n - length a) b
drop_both n a b = elim (cases_lt n (length a)) [
  | inl below ↦
      let none : n - length a ≡ 0 = omega (arith, below) in
      drop-append-le n a b (omega (arith, below)) ∙ ap (λ k. drop n a ++ drop k b) (sym none)
  | inr above ↦
      let place : n ≡ length a + (n - length a) = omega (arith, above) in
      ap (λ k. drop k (a ++ b)) place ∙ drop-append-add a b (n - length a) ∙ ap (λ f. f ++ drop (n - length a) b) (sym (drop_all n a above))
]
