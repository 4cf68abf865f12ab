-- The pages that table pages name.
use Rattle.std.specs.Prelude.{◌≡◌, ℕ, not, ◌&&◌, if◌then◌else◌, List, [], ◌∷◌, ◌++◌, drop, take, Result, Ok, Err}
use Rattle.fixed_numbers.specs.declared.refusals.TheConstants.{BAD_ROOT, BAD_TABLE}
use Rattle.fixed_numbers.specs.declared.sizes.TheConstants.{TABLE_ENTRIES}
use Rattle.disk_trait.specs.declared.facts.DiskFacts.{Ghosts}
use Rattle.page_file.specs.Index.{Index, IsAtRest, live_pages}
use Rattle.page_file.specs.Pages.{pages, are_whole, is_zero, are_pages, numbers}

-- the numbers that table pages hold, 1,024 each
abbrev pub entries : List (List ℕ) → List ℕ
entries [] = []
entries (bytes ∷ rest) = numbers TABLE_ENTRIES bytes ++ entries rest

-- the pages that a root reaches, by the numbers in its table pages; bad table 45
abbrev pub reached_by : List ℕ → ℕ → List ℕ → Result (List ℕ) ℕ
reached_by tables count found =
    if not (is_zero (drop count found) && are_pages (tables ++ take count found)) then Err BAD_TABLE else Ok (tables ++ take count found)

-- the pages that a root with these table pages and count data pages reaches in a file; bad root 43, bad table 45
abbrev pub reached_in : List ℕ → ℕ → List ℕ → Result (List ℕ) ℕ
reached_in tables count file = if not (are_whole (pages tables file)) then Err BAD_ROOT else reached_by tables count (entries (pages tables file))

-- the live pages are those that these table pages name in the file of a disk
pub record AreNamed {D : Type 0} (facts : Ghosts D) (disk : D) (tables : List ℕ) (count : ℕ) (index : Index) : Type 0 where
  pub value : facts.tells disk → reached_in tables count (facts.content disk) ≡ Ok (live_pages index)
  pub at_rest : IsAtRest tables count index
