-- Used by private functions and proofs alone.
--
-- Cells in the order of the text, and what the calls of a sequence make of them.
use Rattle.std.specs.Prelude.{ℕ, ◌+◌, ◌-◌, ◌==◌, Bool, true, false, not, if◌then◌else◌, List, [], ◌∷◌}
use Rattle.std.specs.Prelude.{map, filter, Option, Some, None}
use Rattle.std.specs.List.{list_any}
use Rattle.op_ids.specs.Id.{Id, is_below, is_same}
use Rattle.char_sequence.specs.declared.cell.Cell.{Cell}

-- before the first of these that has no greater id
abbrev pub past_greater : Cell → List Cell → List Cell
past_greater c [] = c ∷ []
past_greater c (d ∷ ds) = if is_below c.id d.id then d ∷ past_greater c ds else c ∷ d ∷ ds

-- behind the cell of this id, and past all greater ids that follow
abbrev pub behind : Id → Cell → List Cell → List Cell
behind origin c [] = []
behind origin c (d ∷ ds) = if is_same d.id origin then d ∷ past_greater c ds else d ∷ behind origin c ds

-- behind its origin, and past all greater ids that follow
abbrev pub inserted : Option Id → Cell → List Cell → List Cell
inserted None c ds = past_greater c ds
inserted (Some origin) c ds = behind origin c ds

-- one of these cells has this id
abbrev pub has_cell : List Cell → Id → Bool
has_cell cs id = list_any (λ c. is_same c.id id) cs

-- the beginning is known, and so is each id that a cell has
abbrev pub is_known : List Cell → Option Id → Bool
is_known cs None = true
is_known cs (Some id) = has_cell cs id

-- the cell of this id as a tombstone
abbrev pub removed : Id → List Cell → List Cell
removed id [] = []
removed id (c ∷ cs) = if is_same c.id id then record c { is_removed = true } ∷ cs else c ∷ removed id cs

-- so much more, where there is a number
abbrev pub raised : ℕ → Option ℕ → Option ℕ
raised by None = None
raised by (Some n) = Some (by + n)

-- how many cells stand before the one with this id, if there is one
abbrev pub place_of : Id → List Cell → Option ℕ
place_of id [] = None
place_of id (c ∷ cs) = if is_same c.id id then Some 0 else raised 1 (place_of id cs)

-- the cells that a reader sees
abbrev pub shown : List Cell → List Cell
shown cs = filter (λ c. not c.is_removed) cs

-- the id of the k-th cell that a reader sees, counted from 0
abbrev pub shown_at : List Cell → ℕ → Option Id
shown_at [] k = None
shown_at (c ∷ cs) k = if c.is_removed then shown_at cs k else if k == 0 then Some c.id else shown_at cs (k - 1)

-- what stands behind the first k cells that a reader sees
abbrev pub behind_shown : List Cell → ℕ → List Cell
behind_shown [] k = []
behind_shown (c ∷ cs) k = if k == 0 then c ∷ cs else behind_shown cs (if c.is_removed then k else k - 1)

-- the ids of the tombstones that these cells begin with
abbrev pub first_removed : List Cell → List Id
first_removed [] = []
first_removed (c ∷ cs) = if c.is_removed then c.id ∷ first_removed cs else []

-- the values of the cells that a reader sees
abbrev pub shown_values : List Cell → List ℕ
shown_values cs = map (λ c. c.value) (shown cs)

-- the cell of an insert
abbrev pub cell_of_insert : Id × ℕ → Cell
cell_of_insert x = record { id = x.0; value = x.1; is_removed = false }

-- the cells of these ids as tombstones
abbrev pub removed_all : List Id → List Cell → List Cell
removed_all [] cs = cs
removed_all (id ∷ ids) cs = removed_all ids (removed id cs)
