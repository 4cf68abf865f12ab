-- A root's stream depends on the pages that it reaches alone.
use Rattle.std.proofs.Common.{◌≡◌, ℕ, Bool, true, false, not, ◌&&◌, List, [], ◌∷◌, ◌++◌, take, drop, refl, sym, ap, ◌∙◌, arith, Result, Ok, Err, if◌then◌else◌}
use Rattle.std.proofs.lemmas.Bool.Decides.{nat_tests}
use Rattle.page_file.specs.Pages.{pages, are_pages, are_whole, is_zero, joined}
use Rattle.root_slots.specs.Root.{is_root, tables_of, stream_length_of, data_count}
use Rattle.group_commit.specs.Image.{entries, data_pages_in, are_tables, stream_in, tables_in, stream, pages_reached, Stores}

-- some pages and some more are the same: then each of them
pages_of_first : (a b c f : List ℕ) → pages (a ++ b) c ≡ pages (a ++ b) f → pages a c ≡ pages a f
pages_of_first [] b c f same = refl
pages_of_first (n ∷ ns) b c f same =
    cong2 (ap head_of same) (pages_of_first ns b c f (ap rest_of same))
  where
    head_of : List (List ℕ) → List ℕ
    head_of [] = []
    head_of (x ∷ xs) = x

    rest_of : List (List ℕ) → List (List ℕ)
    rest_of [] = []
    rest_of (x ∷ xs) = xs

    cong2 : {p q : List ℕ} {ps qs : List (List ℕ)} → p ≡ q → ps ≡ qs → p ∷ ps ≡ q ∷ qs
    cong2 {p} {q} {ps} {qs} one rest = ap (λ x. x ∷ ps) one ∙ ap (λ xs. q ∷ xs) rest

pages_of_second : (a b c f : List ℕ) → pages (a ++ b) c ≡ pages (a ++ b) f → pages b c ≡ pages b f
pages_of_second [] b c f same = same
pages_of_second (n ∷ ns) b c f same = pages_of_second ns b c f (ap rest_of same)
  where
    rest_of : List (List ℕ) → List (List ℕ)
    rest_of [] = []
    rest_of (x ∷ xs) = xs

-- the tables are the same
tables_same : (f c root : List ℕ) → pages (pages_reached f root) c ≡ pages (pages_reached f root) f → tables_in c root ≡ tables_in f root
tables_same f c root same = pages_of_first (tables_of root) (data_pages_in root (tables_in f root)) c f same

-- a file in which the reached pages are the same has the same stream, or the same fault
pub stream_same : (f c root : List ℕ) → pages (pages_reached f root) c ≡ pages (pages_reached f root) f → stream c root ≡ stream f root
stream_same f c root same =
    let tables = tables_same f c root same in
    let data_pages = pages_of_second (tables_of root) (data_pages_in root (tables_in f root)) c f same in
    ap (λ ts. stream_in root ts (pages (data_pages_in root ts) c)) tables ∙ ap (λ ds. stream_in root (tables_in f root) ds) data_pages

pub reached_same : (f c root : List ℕ) → pages (pages_reached f root) c ≡ pages (pages_reached f root) f → pages_reached c root ≡ pages_reached f root
reached_same f c root same = ap (λ ts. tables_of root ++ data_pages_in root ts) (tables_same f c root same)

-- a root is stored in a file in which its pages are the same
pub stores_same : (root bytes ns f c : List ℕ) → Stores root bytes ns f → pages ns c ≡ pages ns f → Stores root bytes ns c
stores_same root bytes ns f c stores same =
    let there = rw (sym stores.reaches) at same in
    record {
      spells = stream_same f c root there ∙ stores.spells;
      reaches = reached_same f c root there ∙ stores.reaches;
    }

-- what a stored root says
pub record Reading (root : List ℕ) (tables data_pages : List (List ℕ)) (bytes : List ℕ) : Type 0 where
  pub is_body : is_root root ≡ true
  pub whole_tables : are_whole tables ≡ true
  pub rest : is_zero (drop (data_count root) (entries tables)) ≡ true
  pub apart : are_pages (tables_of root ++ data_pages_in root tables) ≡ true
  pub whole_pages : are_whole data_pages ≡ true
  pub zeros : is_zero (drop (stream_length_of root) (joined data_pages)) ≡ true
  pub same : take (stream_length_of root) (joined data_pages) ≡ bytes

and_first : (a b : Bool) → (a && b) ≡ true → a ≡ true
and_first a b both = grind (arith, nat_tests)

and_second : (a b : Bool) → (a && b) ≡ true → b ≡ true
and_second a b both = grind (arith, nat_tests)

pub reading_of : (root : List ℕ) (tables data_pages : List (List ℕ)) (bytes : List ℕ) → stream_in root tables data_pages ≡ Ok bytes → Reading root tables data_pages bytes
reading_of root tables data_pages bytes is =
    let it = by_tests (is_root root && are_whole tables) (are_tables root tables && are_whole data_pages)
    (is_zero (drop (stream_length_of root) (joined data_pages))) (take (stream_length_of root) (joined data_pages)) bytes is in
    let shape = and_first (are_tables root tables) (are_whole data_pages) it.1 in
    record {
      is_body = and_first (is_root root) (are_whole tables) it.0;
      whole_tables = and_second (is_root root) (are_whole tables) it.0;
      rest = and_first (is_zero (drop (data_count root) (entries tables))) (are_pages (tables_of root ++ data_pages_in root tables)) shape;
      apart = and_second (is_zero (drop (data_count root) (entries tables))) (are_pages (tables_of root ++ data_pages_in root tables)) shape;
      whole_pages = and_second (are_tables root tables) (are_whole data_pages) it.1;
      zeros = it.2;
      same = it.3;
    }
  where
    tested : Bool → Bool → Bool → List ℕ → Result (List ℕ) ℕ
    tested a b c all = if not a then Err 43 else if not b then Err 45 else if not c then Err 46 else Ok all

    or_none : List ℕ → Result (List ℕ) ℕ → List ℕ
    or_none none (Ok bytes) = bytes
    or_none none (Err n) = none

    by_tests : (a b c : Bool) (all bytes : List ℕ)
        → tested a b c all ≡ Ok bytes
        → (a ≡ true) × (b ≡ true) × (c ≡ true) × (all ≡ bytes)
    by_tests true true true all bytes is = (refl, refl, refl, ap (or_none []) is)
    by_tests true true false all bytes is = absurd (cc)
    by_tests true false c all bytes is = absurd (cc)
    by_tests false b c all bytes is = absurd (cc)
