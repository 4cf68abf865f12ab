-- How a list of operations is held: whole, those that begin a run, and of the others their characters.
use Rattle.std.specs.Prelude.{◌≡◌, ℕ, suc, ◌<◌, ◌^◌, ◌==◌, Bool, true, false, List, [], ◌∷◌, length, Option, Some, None, if◌then◌else◌}
use Rattle.op_model.specs.declared.op.Op.{Op}
use Rattle.op_pieces.specs.Cutting.{is_next, value_of}
use Rattle.op_pieces.specs.Pieces.{next_typed}
use Rattle.change_codec.specs.Fits.{IsOperation}
use Rattle.change_codec.specs.Stream.{AreOperations}
use Rattle.run_list.specs.declared.marks.TheConstants.{BEGINS}

-- an operation goes on with the run of the one before it
abbrev pub goes_on : Option Op → Op → Bool
goes_on None op = false
goes_on (Some last) op = is_next last op

-- the character that an operation types, or that it begins a run
abbrev pub mark_of : Option Op → Op → ℕ
mark_of last op = if goes_on last op then value_of op.body else BEGINS

-- the same of each of these, behind one
abbrev pub marks_behind : Option Op → List Op → List ℕ
marks_behind last [] = []
marks_behind last (op ∷ ops) = mark_of last op ∷ marks_behind (Some op) ops

-- those of them that begin a run
abbrev pub firsts_behind : Option Op → List Op → List Op
firsts_behind last [] = []
firsts_behind last (op ∷ ops) = if goes_on last op then firsts_behind (Some op) ops else op ∷ firsts_behind (Some op) ops

-- and where these stand, if the first operation of all stands there
abbrev pub starts_behind : Option Op → ℕ → List Op → List ℕ
starts_behind last at [] = []
starts_behind last at (op ∷ ops) =
    if goes_on last op then starts_behind (Some op) (suc at) ops else at ∷ starts_behind (Some op) (suc at) ops

-- the last of these operations, or the one before all
abbrev pub last_behind : Option Op → List Op → Option Op
last_behind last [] = last
last_behind last (op ∷ ops) = last_behind (Some op) ops

-- the first of some, and the others
abbrev pub taken_first : List Op → Option (Op × List Op)
taken_first [] = None
taken_first (op ∷ ops) = Some (op, ops)

-- what is typed behind an operation, and those that begin a run
abbrev pub typed_next : Option Op → ℕ → List Op → Option (Op × List Op)
typed_next None mark firsts = None
typed_next (Some last) mark firsts = Some (next_typed last mark, firsts)

-- the operation that a mark stands for, and those that are left of the firsts
abbrev pub next_of : Option Op → ℕ → List Op → Option (Op × List Op)
next_of last mark firsts = if mark == BEGINS then taken_first firsts else typed_next last mark firsts

-- an operation, and those that stand for what is behind it
abbrev pub then_behind : (Option Op → List Op → List Op) → Option (Op × List Op) → List Op
then_behind behind None = []
then_behind behind (Some next) = next.0 ∷ behind (Some next.0) next.1

-- the operations that these marks stand for, behind one, with those that begin a run
unfoldable pub unrolled : List ℕ → Option Op → List Op → List Op
unrolled [] last firsts = []
unrolled (mark ∷ marks) last firsts = then_behind (unrolled marks) (next_of last mark firsts)

-- these are the marks of the list, the operations that begin its runs, and where these stand
pub record HoldsRuns (marks : List ℕ) (firsts : List Op) (starts : List ℕ) (ops : List Op) : Type 0 where
  pub marks_so : marks ≡ marks_behind None ops
  pub firsts_so : firsts ≡ firsts_behind None ops
  pub starts_so : starts ≡ starts_behind None 0 ops
  pub fits : AreOperations ops
  pub few : length ops < 2 ^ 32

-- they are those of the list that they stand for
abbrev pub AreRuns : List ℕ → List Op → List ℕ → Type 0
AreRuns marks firsts starts = HoldsRuns marks firsts starts (unrolled marks None firsts)

-- an operation goes on with the run of the last of these, and types this character
pub record IsTypedBehind (ops : List Op) (value : ℕ) (op : Op) : Type 0 where
  pub on : goes_on (last_behind None ops) op ≡ true
  pub types : value ≡ value_of op.body
  pub fits : IsOperation op
