-- What table pages and data pages say, step by step.
use Rattle.std.proofs.Common.{◌≡◌, ℕ, ◌+◌, ◌*◌, ◌≤◌, true, false, List, length, take, drop, refl, sym, ap, ◌∙◌, arith, Ok, Err}
use Rattle.page_file.specs.Pages.{pages, are_whole, is_zero, joined}
use Rattle.root_slots.specs.Root.{pages_for}
use Rattle.root_slots.specs.Body.{tables_for}
use Rattle.root_slots.proofs.HeadLemmas.{most_tables}
use Rattle.group_commit.specs.Image.{entries}
use Rattle.group_commit.specs.Loading.{are_within, reached_by, reached_in, stream_of}
use Rattle.group_commit.proofs.PageReads.{within_whole}

-- the test of sizes, in a file of this size
pub test_whole : (ns file : List ℕ) (size : ℕ) → size ≡ length file → are_whole (pages ns file) ≡ are_within size ns
test_whole ns file size same = sym (within_whole ns file) ∙ ap (λ s. are_within s ns) (sym same)

pub not_whole : (n : ℕ) (ps : List (List ℕ)) → are_whole ps ≡ false → stream_of n ps ≡ Err 45
not_whole n ps is = rw is refl

pub not_zero : (n : ℕ) (ps : List (List ℕ)) → are_whole ps ≡ true → is_zero (drop n (joined ps)) ≡ false → stream_of n ps ≡ Err 46
not_zero n ps is rest = rw (is, rest) refl

pub is_stream : (n : ℕ) (ps : List (List ℕ)) → are_whole ps ≡ true → is_zero (drop n (joined ps)) ≡ true → stream_of n ps ≡ Ok (take n (joined ps))
is_stream n ps is rest = rw (is, rest) refl

pub no_tables : (tables : List ℕ) (count : ℕ) (file : List ℕ) → are_whole (pages tables file) ≡ false → reached_in tables count file ≡ Err 43
no_tables tables count file is = rw is refl

pub by_tables : (tables : List ℕ) (count : ℕ) (file : List ℕ) → are_whole (pages tables file) ≡ true
    → reached_in tables count file ≡ reached_by tables count (entries (pages tables file))
by_tables tables count file is = rw is refl

-- as many numbers stand in the table pages as there are data pages
pub numbers_fit : (n : ℕ) → pages_for 4096 n ≤ 1024 * tables_for n
numbers_fit n = fit (pages_for 4096 n)
  where
    fit : (p : ℕ) → p ≤ 1024 * pages_for 1024 p
    fit p = omega arith

-- so the pages of a root are few
pub few_pages : (n t l : ℕ) → n ≤ 1073741824 → t ≡ tables_for n → l ≡ t + pages_for 4096 n → l ≤ 262400
few_pages n t l most count size = omega (arith, most_tables n most, count, size, data_most n most)
  where
    data_most : (n : ℕ) → n ≤ 1073741824 → pages_for 4096 n ≤ 262144
    data_most n most = omega (arith, most)
