-- A root whose last pages are new is stored, where its first pages are those of the root before.
use Rattle.std.proofs.Common.{◌≡◌, ℕ, zero, suc, ◌+◌, ◌*◌, ◌<◌, ◌≤◌, ◌^◌, true, All, List, [], ◌∷◌}
use Rattle.std.proofs.Common.{◌++◌, length, take, drop, refl, sym, ap, ◌∙◌, arith, length-append}
use Rattle.std.proofs.Common.{length-take, append_assoc}
use Rattle.std.specs.Prelude.{replicate}
use Rattle.std.proofs.lemmas.List.{take-take, take_at, drop_at, take-append-drop, take-append-le}
use Rattle.page_file.specs.Pages.{page, pages, are_whole, joined, numbers, number_bytes}
use Rattle.root_slots.proofs.HeadLemmas.{length-numbers}
use Rattle.group_commit.specs.Image.{entries}
use Rattle.group_commit.specs.Standing.{ReadAs}
use Rattle.group_commit.proofs.Inside.{whole-append}
use Rattle.group_commit.proofs.ManyPages.{joined-append, pages-append, length-pages, length-joined, take_behind}
use Rattle.group_commit.proofs.ManyPages.{joined-take, whole-take, reads_joined, entries_joined}
use Rattle.group_commit.proofs.ManyPages.{numbers_written, first_whole, rest_whole, both_whole}
use Rattle.group_commit.proofs.Roots.{HasBoth}

entries-append : (a b : List (List ℕ)) → entries (a ++ b) ≡ entries a ++ entries b
entries-append [] b = refl
entries-append (t ∷ ts) b = ap (λ r. numbers 1024 t ++ r) (entries-append ts b) ∙ sym (append_assoc (numbers 1024 t) (entries ts) (entries b))

-- the first tables hold the first numbers
entries-take : (ns file : List ℕ) (k : ℕ) → k ≤ length ns → entries (pages (take k ns) file) ≡ take (1024 * k) (entries (pages ns file))
entries-take ns file zero within = refl
entries-take [] file (suc k) within = absurd (omega (arith, within))
entries-take (n ∷ ns) file (suc k) within =
    let rest = entries-take ns file k (omega (arith, within)) in
    ap (λ r. numbers 1024 (page n file) ++ r) rest
    ∙ sym (take_behind (numbers 1024 (page n file)) (entries (pages ns file)) 1024 (1024 * k) (1024 * suc k) (length-numbers 1024 (page n file)) (omega arith))

-- what is new of a root: its stream with zeros behind it; which data pages and tables stay; the numbers of the new ones, their bytes
pub record Renews (s tables data_pages : List ℕ) (z : ℕ) (s' : List ℕ) (z' kept kept_tables : ℕ) (new_data new_tables data_bytes table_bytes : List ℕ)
    (k m : ℕ) : Type 0 where
  pub within : kept ≤ length data_pages
  pub tables_within : kept_tables ≤ length tables
  pub named_within : 1024 * kept_tables ≤ kept
  -- the bytes of the pages that stay
  pub same : take (4096 * kept) (s ++ replicate z 0) ≡ take (4096 * kept) (s' ++ replicate z' 0)
  pub data_size : length data_bytes ≡ 4096 * length new_data
  pub data_are : data_bytes ≡ drop (4096 * kept) (s' ++ replicate z' 0)
  pub table_size : length table_bytes ≡ 4096 * length new_tables
  pub tables_are : table_bytes ≡ number_bytes (drop (1024 * kept_tables) (take kept data_pages ++ new_data)) ++ replicate m 0
  pub table_room : 1024 * length new_tables ≡ length (drop (1024 * kept_tables) (take kept data_pages ++ new_data)) + k
  pub zeros_room : 4 * k ≤ m
  pub wide : All (λ n. n < 2 ^ 32) (drop (1024 * kept_tables) (take kept data_pages ++ new_data))

-- with the new pages written, the file has the new root's pages
pub renewed : (root root' s tables data_pages : List ℕ) (y z : ℕ) (s' : List ℕ) (z' kept kept_tables : ℕ) (new_data new_tables data_bytes table_bytes : List ℕ) (k m : ℕ)
    (file : List ℕ) → HasBoth root s tables data_pages y z file
    → Renews s tables data_pages z s' z' kept kept_tables new_data new_tables data_bytes table_bytes k m
    → ReadAs (length (new_data ++ new_tables)) (new_data ++ new_tables) (data_bytes ++ table_bytes) file
    → HasBoth root' s' (take kept_tables tables ++ new_tables) (take kept data_pages ++ new_data) k z' file
renewed root root' s tables data_pages y z s' z' kept kept_tables new_data new_tables data_bytes table_bytes k m file had new reads =
    let all = reads_joined (new_data ++ new_tables) (data_bytes ++ table_bytes) file
    (omega (arith, length-append data_bytes table_bytes, length-append new_data new_tables, new.data_size, new.table_size)) reads in
    let split : pages (new_data ++ new_tables) file ≡ pages new_data file ++ pages new_tables file = pages-append new_data new_tables file in
    let both : are_whole (pages new_data file ++ pages new_tables file) ≡ true = ap are_whole (sym split) ∙ all.0 in
    let whole_data = whole_front (pages new_data file) (pages new_tables file) both in
    let whole_tables = whole_back (pages new_data file) (pages new_tables file) both in
    let bytes : joined (pages new_data file) ++ joined (pages new_tables file) ≡ data_bytes ++ table_bytes =
    sym (joined-append (pages new_data file) (pages new_tables file)) ∙ ap joined (sym split) ∙ all.1 in
    let size : length (joined (pages new_data file)) ≡ length data_bytes =
    omega (arith, length-joined (pages new_data file) whole_data, length-pages new_data file, new.data_size) in
    let data_is : joined (pages new_data file) ≡ data_bytes =
    sym (take_at (joined (pages new_data file)) (joined (pages new_tables file)) (length data_bytes) size) ∙ ap (take (length data_bytes)) bytes
    ∙ take_at data_bytes table_bytes (length data_bytes) refl in
    let tables_is : joined (pages new_tables file) ≡ table_bytes =
    sym (drop_at (joined (pages new_data file)) (joined (pages new_tables file)) (length data_bytes) size) ∙ ap (drop (length data_bytes)) bytes
    ∙ drop_at data_bytes table_bytes (length data_bytes) refl in
    let rest = drop (1024 * kept_tables) (take kept data_pages ++ new_data) in
    let table_count : 1024 * length (pages new_tables file) ≡ length rest + k = ap (λ n. 1024 * n) (length-pages new_tables file) ∙ new.table_room in
    let new_names : entries (pages new_tables file) ≡ rest ++ replicate k 0 =
    entries_joined (pages new_tables file) whole_tables ∙ ap (λ n. numbers n (joined (pages new_tables file))) table_count
    ∙ ap (numbers (length rest + k)) (tables_is ∙ new.tables_are) ∙ numbers_written rest k m new.wide new.zeros_room in
    let old_names : entries (pages (take kept_tables tables) file) ≡ take (1024 * kept_tables) (take kept data_pages ++ new_data) =
    entries-take tables file kept_tables new.tables_within ∙ ap (take (1024 * kept_tables)) had.names
    ∙ take-append-le (1024 * kept_tables) data_pages (replicate y 0) (omega (arith, new.named_within, new.within))
    ∙ sym (take-append-le (1024 * kept_tables) (take kept data_pages) new_data (omega (arith, length-take kept data_pages, new.named_within, new.within))
    ∙ take-take (1024 * kept_tables) kept data_pages new.named_within) in
    record {
      whole_tables = whole-append (take kept_tables tables) new_tables file (whole-take tables file kept_tables had.whole_tables) whole_tables;
      whole_pages = whole-append (take kept data_pages) new_data file (whole-take data_pages file kept had.whole_pages) whole_data;
      names = ap entries (pages-append (take kept_tables tables) new_tables file)
          ∙ entries-append (pages (take kept_tables tables) file) (pages new_tables file)
          ∙ ap (λ f. f ++ entries (pages new_tables file)) old_names
          ∙ ap (λ r. take (1024 * kept_tables) (take kept data_pages ++ new_data) ++ r) new_names
          ∙ sym (append_assoc (take (1024 * kept_tables) (take kept data_pages ++ new_data)) rest (replicate k 0))
          ∙ ap (λ f. f ++ replicate k 0) (take-append-drop (1024 * kept_tables) (take kept data_pages ++ new_data));
      holds = ap joined (pages-append (take kept data_pages) new_data file)
          ∙ joined-append (pages (take kept data_pages) file) (pages new_data file)
          ∙ ap (λ f. f ++ joined (pages new_data file)) (joined-take data_pages file kept had.whole_pages new.within ∙ ap (take (4096 * kept)) had.holds ∙ new.same)
          ∙ ap (λ r. take (4096 * kept) (s' ++ replicate z' 0) ++ r) (data_is ∙ new.data_are)
          ∙ take-append-drop (4096 * kept) (s' ++ replicate z' 0);
    }
  where
    whole_front : (a b : List (List ℕ)) → are_whole (a ++ b) ≡ true → are_whole a ≡ true
    whole_front [] b whole = refl
    whole_front (p ∷ ps) b whole = both_whole p ps (first_whole p (ps ++ b) whole) (whole_front ps b (rest_whole p (ps ++ b) whole))

    whole_back : (a b : List (List ℕ)) → are_whole (a ++ b) ≡ true → are_whole b ≡ true
    whole_back [] b whole = whole
    whole_back (p ∷ ps) b whole = whole_back ps b (rest_whole p (ps ++ b) whole)
