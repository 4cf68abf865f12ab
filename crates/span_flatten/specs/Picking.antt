-- Used by private functions and proofs alone.
--
-- Mark operations that are named by how many came before them.
use Rattle.std.specs.Prelude.{ℕ, Bool, false, List, Option, Some, None, filter_map, slice_get}
use Rattle.op_model.specs.declared.mark.MarkKey.{MarkKey}
use Rattle.op_model.specs.declared.marking.Marking.{Marking}
use Rattle.op_model.specs.Marks.{is_key}

-- the mark operations with these indexes
abbrev pub picked : List Marking → List ℕ → List Marking
picked ms set = filter_map (λ i. slice_get ms i) set

-- a mark operation is about this key, if it is there
abbrev pub is_of_key : Option Marking → MarkKey → Bool
is_of_key None key = false
is_of_key (Some m) key = is_key m.key key

-- there is an i-th mark operation, and it is about this key
abbrev pub is_key_at : List Marking → ℕ → MarkKey → Bool
is_key_at ms i key = is_of_key (slice_get ms i) key
