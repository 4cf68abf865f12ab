-- Pages of a file. A file is the list of its bytes; a page has 4,096 of them.
use Rattle.std.specs.Prelude.{ℕ, zero, suc, ◌*◌, ◌==◌, Bool, true, false, not, ◌&&◌, ◌||◌, nat_le, List, [], ◌∷◌, ◌++◌, length, drop, take}
use Rattle.std.specs.Int.{w32, from_be_bytes, to_be_bytes}
use Rattle.fixed_numbers.specs.declared.sizes.TheConstants.{PAGE_SIZE}
use Rattle.disk_trait.specs.File.{part}

-- the bytes of the n-th page, or as many of them as the file has
abbrev pub page : ℕ → List ℕ → List ℕ
page n file = part file (PAGE_SIZE * n) PAGE_SIZE

-- the bytes of each of these pages
abbrev pub pages : List ℕ → List ℕ → List (List ℕ)
pages [] file = []
pages (n ∷ ns) file = page n file ∷ pages ns file

-- lies whole in the file
abbrev pub is_whole : List ℕ → Bool
is_whole bytes = length bytes == PAGE_SIZE

abbrev pub are_whole : List (List ℕ) → Bool
are_whole [] = true
are_whole (bytes ∷ rest) = is_whole bytes && are_whole rest

-- all of them are zero
abbrev pub is_zero : List ℕ → Bool
is_zero [] = true
is_zero (n ∷ ns) = n == 0 && is_zero ns

-- is one of these numbers
abbrev pub has : ℕ → List ℕ → Bool
has n [] = false
has n (m ∷ ms) = n == m || has n ms

-- numbers of pages behind the two root slots, none of them twice
abbrev pub are_pages : List ℕ → Bool
are_pages [] = true
are_pages (n ∷ ns) = nat_le 2 n && not (has n ns) && are_pages ns

-- the first n numbers, of four bytes each
abbrev pub numbers : ℕ → List ℕ → List ℕ
numbers zero bytes = []
numbers (suc n) bytes = from_be_bytes w32 (take 4 bytes) ∷ numbers n (drop 4 bytes)

-- each number in four bytes, the highest first
abbrev pub number_bytes : List ℕ → List ℕ
number_bytes [] = []
number_bytes (n ∷ ns) = to_be_bytes w32 n ++ number_bytes ns

-- pages, one after another
abbrev pub joined : List (List ℕ) → List ℕ
joined [] = []
joined (bytes ∷ rest) = bytes ++ joined rest
