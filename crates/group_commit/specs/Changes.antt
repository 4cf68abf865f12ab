-- Which pages a commit writes: those that change, and those that are new.
use Rattle.std.specs.Prelude.{ℕ, zero, suc, ◌==◌, Bool, true, false, ◌&&◌, List, [], ◌∷◌, ◌++◌, length, take, drop, replicate, if◌then◌else◌}
use Rattle.fixed_numbers.specs.declared.sizes.TheConstants.{PAGE_SIZE, TABLE_ENTRIES}
use Rattle.root_slots.specs.Root.{table_count, tables_of, pages_for}
use Rattle.group_commit.specs.Saved.{Saved}

-- the first n parts of this size, one after another
abbrev pub cut : ℕ → ℕ → List ℕ → List (List ℕ)
cut size zero all = []
cut size (suc n) all = take size all ∷ cut size n (drop size all)

-- the parts of one size that hold all of it, the last one filled with zeros
unfoldable pub parts : ℕ → List ℕ → List (List ℕ)
parts size all = cut size (pages_for size (length all)) (all ++ replicate size 0)

-- they are the same numbers
abbrev pub are_same : List ℕ → List ℕ → Bool
are_same [] [] = true
are_same [] (y ∷ ys) = false
are_same (x ∷ xs) [] = false
are_same (x ∷ xs) (y ∷ ys) = x == y && are_same xs ys

-- of pages with these numbers, those that differ from the page at the same place before, or have none there
abbrev pub changed : List (List ℕ) → List (List ℕ) → List ℕ → List ℕ
changed old [] numbers = []
changed old (page ∷ pages) [] = []
changed [] (page ∷ pages) (n ∷ numbers) = n ∷ changed [] pages numbers
changed (before ∷ old) (page ∷ pages) (n ∷ numbers) =
    if are_same before page then changed old pages numbers else n ∷ changed old pages numbers

-- the data pages of a root, in the order of its stream: they stand behind its table pages
abbrev pub data_of : Saved → List ℕ
data_of root = drop (table_count root.body) root.pages

-- the data pages whose bytes change or are new, in the order of the stream
unfoldable pub changed_data : Saved → Saved → List ℕ
changed_data current next = changed (parts PAGE_SIZE current.stream) (parts PAGE_SIZE next.stream) (data_of next)

-- the table pages whose entries change or are new, in their order
unfoldable pub changed_tables : Saved → Saved → List ℕ
changed_tables current next = changed (parts TABLE_ENTRIES (data_of current)) (parts TABLE_ENTRIES (data_of next)) (tables_of next.body)

-- The pages that a commit of the next root writes. The next root's own numbers stand in it, so this alone says which places change;
-- that a changed page has a number which the current root doesn't reach is said by `KeepsPages` (with an example) and the store.
abbrev pub changed_pages : Saved → Saved → List ℕ
changed_pages current next = changed_data current next ++ changed_tables current next
