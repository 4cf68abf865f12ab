-- What a stored root says of its pages, and when a root is stored.
use Rattle.std.proofs.Common.{◌≡◌, ℕ, ◌+◌, ◌≤◌, Bool, true, not, ◌&&◌, List, [], ◌∷◌, ◌++◌, length}
use Rattle.std.proofs.Common.{take, drop, refl, sym, ap, ◌∙◌, arith, length-append, Result, Ok, Err}
use Rattle.std.proofs.Common.{if◌then◌else◌}
use Rattle.std.specs.Prelude.{replicate}
use Rattle.std.proofs.lemmas.List.{take_at, drop_at, take-append-drop}
use Rattle.page_file.specs.Pages.{pages, are_pages, are_whole, is_zero, joined}
use Rattle.page_file.proofs.TableLemmas.{zero-replicate}
use Rattle.std.proofs.lemmas.Bool.Decides.{nat_tests}
use Rattle.root_slots.specs.Head.{is_head}
use Rattle.root_slots.specs.Root.{is_root, tables_of, data_count, pages_for, stream_length_of}
use Rattle.root_slots.proofs.HeadLemmas.{is_rest, root_is_head, head_says, length-tables, most_tables}
use Rattle.group_commit.specs.Saved.{Saved, HasDataPages}
use Rattle.group_commit.specs.Image.{entries, data_pages_in, are_tables, stream_in, tables_in, Stores}
use Rattle.group_commit.proofs.Frame.{reading_of}
use Rattle.group_commit.proofs.ManyPages.{zeros_are}

-- all rules hold: then there is a stream
pub stream_there : (root : List ℕ) (tables data_pages : List (List ℕ)) → is_root root ≡ true → are_whole tables ≡ true
    → is_zero (drop (data_count root) (entries tables)) ≡ true → are_pages (tables_of root ++ data_pages_in root tables) ≡ true
    → are_whole data_pages ≡ true → is_zero (drop (stream_length_of root) (joined data_pages)) ≡ true
    → stream_in root tables data_pages ≡ Ok (take (stream_length_of root) (joined data_pages))
stream_there root tables data_pages body whole rest apart whole_pages zeros =
    by_tests (is_root root && are_whole tables) (are_tables root tables && are_whole data_pages) (is_zero (drop (stream_length_of root) (joined data_pages)))
    (take (stream_length_of root) (joined data_pages))
    (both (is_root root) (are_whole tables) body whole)
    (both (are_tables root tables) (are_whole data_pages) (both (is_zero (drop (data_count root) (entries tables))) (are_pages (tables_of root ++ data_pages_in root tables)) rest apart) whole_pages)
    zeros
  where
    tested : Bool → Bool → Bool → List ℕ → Result (List ℕ) ℕ
    tested a b c all = if not a then Err 43 else if not b then Err 45 else if not c then Err 46 else Ok all

    by_tests : (a b c : Bool) (all : List ℕ) → a ≡ true → b ≡ true → c ≡ true → tested a b c all ≡ Ok all
    by_tests a b c all x y z = rw (x, y, z) refl

    both : (a b : Bool) → a ≡ true → b ≡ true → (a && b) ≡ true
    both a b x y = rw (x, y) refl

-- a root's body has 4,088 bytes
pub root_size : (body : List ℕ) → is_root body ≡ true → length body ≡ 4088
root_size body valid = (head_says body (first_true (is_head body) (is_rest body) (sym (root_is_head body) ∙ valid))).size
  where
    first_true : (a b : Bool) → (a && b) ≡ true → a ≡ true
    first_true a b is = grind (arith, nat_tests)

-- and as many table pages as its data pages need
pub root_tables : (body : List ℕ) → is_root body ≡ true → length (tables_of body) ≡ pages_for 1024 (data_count body)
root_tables body valid = length-tables body ∙ (head_says body (first_true (is_head body) (is_rest body) (sym (root_is_head body) ∙ valid))).tables
  where
    first_true : (a b : Bool) → (a && b) ≡ true → a ≡ true
    first_true a b is = grind (arith, nat_tests)

-- the table pages and the data pages of a root in a file, with what stands in them: the numbers and the stream, and zeros
pub record HasBoth (root s tables data_pages : List ℕ) (y z : ℕ) (file : List ℕ) : Type 0 where
  pub whole_tables : are_whole (pages tables file) ≡ true
  pub whole_pages : are_whole (pages data_pages file) ≡ true
  pub names : entries (pages tables file) ≡ data_pages ++ replicate y 0
  pub holds : joined (pages data_pages file) ≡ s ++ replicate z 0

-- a root whose pages are so is stored
pub stored_by : (root s tables data_pages : List ℕ) (y z : ℕ) (file : List ℕ) → is_root root ≡ true → stream_length_of root ≡ length s
    → tables_of root ≡ tables → length data_pages ≡ data_count root → are_pages (tables ++ data_pages) ≡ true
    → HasBoth root s tables data_pages y z file → Stores root s (tables ++ data_pages) file
stored_by root s tables data_pages y z file valid long are_tables count apart both =
    let tabled : tables_in file root ≡ pages tables file = ap (λ ns. pages ns file) are_tables in
    let is_named : data_pages_in root (pages tables file) ≡ data_pages =
    ap (take (data_count root)) both.names ∙ take_at data_pages (replicate y 0) (data_count root) count in
    let filled : pages (data_pages_in root (pages tables file)) file ≡ pages data_pages file = ap (λ ns. pages ns file) is_named in
    let rest : is_zero (drop (data_count root) (entries (pages tables file))) ≡ true =
    ap (λ ns. is_zero (drop (data_count root) ns)) both.names ∙ ap is_zero (drop_at data_pages (replicate y 0) (data_count root) count) ∙ zero-replicate y in
    let once : are_pages (tables_of root ++ data_pages_in root (pages tables file)) ≡ true =
    ap (λ ns. are_pages (ns ++ data_pages_in root (pages tables file))) are_tables ∙ ap (λ ns. are_pages (tables ++ ns)) is_named ∙ apart in
    let zeros : is_zero (drop (stream_length_of root) (joined (pages data_pages file))) ≡ true =
    ap (λ k. is_zero (drop k (joined (pages data_pages file)))) long ∙ ap (λ b. is_zero (drop (length s) b)) both.holds
    ∙ ap is_zero (drop_at s (replicate z 0) (length s) refl) ∙ zero-replicate z in
    let same : take (stream_length_of root) (joined (pages data_pages file)) ≡ s =
    ap (λ k. take k (joined (pages data_pages file))) long ∙ ap (take (length s)) both.holds ∙ take_at s (replicate z 0) (length s) refl in
    record {
      spells = ap (λ ts. stream_in root ts (pages (data_pages_in root ts) file)) tabled ∙ ap (stream_in root (pages tables file)) filled
          ∙ stream_there root (pages tables file) (pages data_pages file) valid both.whole_tables rest once both.whole_pages zeros
          ∙ ap Ok same;
      reaches = ap (λ ts. tables_of root ++ data_pages_in root ts) tabled ∙ ap (λ ns. ns ++ data_pages_in root (pages tables file)) are_tables
          ∙ ap (λ ns. tables ++ ns) is_named;
    }

-- a stored root's pages are so
pub both_of : (root s tables data_pages file : List ℕ) → tables_of root ≡ tables → length s ≡ stream_length_of root
    → Stores root s (tables ++ data_pages) file
    → (y : ℕ) × (z : ℕ) × HasBoth root s tables data_pages y z file
both_of root s tables data_pages file are_tables long stores =
    let reading = reading_of root (tables_in file root) (pages (data_pages_in root (tables_in file root)) file) s stores.spells in
    let tabled : tables_in file root ≡ pages tables file = ap (λ ns. pages ns file) are_tables in
    let is_named : data_pages_in root (tables_in file root) ≡ data_pages =
    same_rest tables (data_pages_in root (tables_in file root)) data_pages (ap (λ ns. ns ++ data_pages_in root (tables_in file root)) (sym are_tables) ∙ stores.reaches) in
    let filled : pages (data_pages_in root (tables_in file root)) file ≡ pages data_pages file = ap (λ ns. pages ns file) is_named in
    let front : take (data_count root) (entries (pages tables file)) ≡ data_pages = ap (λ ts. take (data_count root) (entries ts)) (sym tabled) ∙ is_named in
    let behind : is_zero (drop (data_count root) (entries (pages tables file))) ≡ true =
    ap (λ ts. is_zero (drop (data_count root) (entries ts))) (sym tabled) ∙ reading.rest in
    let start : take (stream_length_of root) (joined (pages data_pages file)) ≡ s =
    ap (λ ps. take (stream_length_of root) (joined ps)) (sym filled) ∙ reading.same in
    let zeros : is_zero (drop (stream_length_of root) (joined (pages data_pages file))) ≡ true =
    ap (λ ps. is_zero (drop (stream_length_of root) (joined ps))) (sym filled) ∙ reading.zeros in (
      length (drop (data_count root) (entries (pages tables file))),
      length (drop (stream_length_of root) (joined (pages data_pages file))),
      record {
        whole_tables = ap are_whole (sym tabled) ∙ reading.whole_tables;
        whole_pages = ap are_whole (sym filled) ∙ reading.whole_pages;
        names = cut (data_count root) (entries (pages tables file)) data_pages front behind;
        holds = cut (stream_length_of root) (joined (pages data_pages file)) s start zeros;
      },
    )
  where
    same_rest : (a b c : List ℕ) → a ++ b ≡ a ++ c → b ≡ c
    same_rest [] b c same = same
    same_rest (x ∷ xs) b c same = same_rest xs b c (ap (drop 1) same)

    cut : (n : ℕ) (all front : List ℕ) → take n all ≡ front → is_zero (drop n all) ≡ true → all ≡ front ++ replicate (length (drop n all)) 0
    cut n all front is zeros = sym (take-append-drop n all) ∙ ap (λ f. f ++ drop n all) is ∙ ap (λ r. front ++ r) (zeros_are (drop n all) zeros)

-- a root's pages are few
pub root_few : (root : Saved) (data_pages : List ℕ) → HasDataPages root data_pages → length root.pages ≤ 262400
root_few root data_pages has_data =
    let both = sym (root_is_head root.body) ∙ has_data.valid in
    let says = head_says root.body (first_true (is_head root.body) (is_rest root.body) both) in
    let size = ap length has_data.reaches ∙ length-append (tables_of root.body) data_pages in
    few (stream_length_of root.body) (length (tables_of root.body)) (length data_pages) (length root.pages) says.stream (root_tables root.body has_data.valid) has_data.count size
  where
    first_true : (a b : Bool) → (a && b) ≡ true → a ≡ true
    first_true a b is = grind (arith, nat_tests)

    few : (n t d l : ℕ) → n ≤ 1073741824 → t ≡ pages_for 1024 (pages_for 4096 n) → d ≡ pages_for 4096 n → l ≡ t + d → l ≤ 262400
    few n t d l most tables data_size size = omega (arith, most_tables n most, tables, data_size, size, data_most n most)
      where
        data_most : (n : ℕ) → n ≤ 1073741824 → pages_for 4096 n ≤ 262144
        data_most n most = omega (arith, most)
