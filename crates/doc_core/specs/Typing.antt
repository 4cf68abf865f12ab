-- Used by private functions and proofs alone.
--
-- The characters of an insert, with their ids.
use Rattle.std.specs.Prelude.{ℕ, ◌+◌, List, [], ◌∷◌}
use Rattle.op_ids.specs.Id.{Id}

-- characters with the ids of a replica from a counter on
abbrev pub run_from : ℕ → ℕ → List ℕ → List (Id × ℕ)
run_from replica counter [] = []
run_from replica counter (c ∷ cs) = (record { counter = counter; replica = replica }, c) ∷ run_from replica (counter + 1) cs
