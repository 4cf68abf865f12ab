-- Used by private functions and proofs alone.
--
-- Which run an operation is of, and what it is there.
use Rattle.std.specs.Prelude.{ℕ, zero, suc, ◌+◌, ◌-◌, nat_lt, List, [], ◌∷◌, length, Some, None, if◌then◌else◌}
use Rattle.op_ids.specs.Clock.{advanced_by}
use Rattle.op_model.specs.declared.op.Op.{Op}
use Rattle.op_model.specs.declared.op.Body.TheVariants.{Insert}
use Rattle.run_list.specs.Runs.{firsts_behind}

-- how many of these, which rise, are below a number
abbrev pub below : ℕ → List ℕ → ℕ
below n [] = 0
below n (s ∷ ss) = if nat_lt s n then suc (below n ss) else 0

-- the operation that stands so far behind the first one of its run, and types this character
abbrev pub typed_at : Op → ℕ → ℕ → Op
typed_at first zero value = first
typed_at first (suc n) value = record {
  id = record { counter = first.id.counter + suc n; replica = first.id.replica };
  doc = first.doc;
  token = first.token;
  deps = advanced_by first.deps first.id.replica (suc n);
  body = Insert (Some (record { counter = first.id.counter + n; replica = first.id.replica })) value;
}

-- the last run that begins up to a place, its first operation and where this stands; or the one before all
abbrev pub run_at : ℕ → Op × ℕ → List ℕ → List Op → Op × ℕ
run_at at run [] firsts = run
run_at at run (s ∷ ss) [] = run
run_at at run (s ∷ ss) (f ∷ fs) = if nat_lt s (suc at) then run_at at (f, s) ss fs else run

-- the operation at a place, of the run that begins there or before
abbrev pub read_at : ℕ → Op × ℕ → ℕ → Op
read_at at run mark = typed_at run.0 (at - run.1) mark

-- how many runs these operations begin
abbrev pub runs_of : List Op → ℕ
runs_of ops = length (firsts_behind None ops)
