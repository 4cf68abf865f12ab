-- Any number of replicas that tell one another their operations.
use Rattle.std.specs.Prelude.{◌≡◌, ◌≢◌, ◌⊎◌, ℕ, List, [], ◌∷◌, map}
use Rattle.op_model.specs.declared.op.Op.{Op}
use Rattle.op_model.specs.Causality.{HasOp}
use Rattle.op_model.specs.Machine.{State, Answer, operations, clock, opened}

-- what a replica tells: operations, or a clock
pub data Message : Type 0 where
  operations_told : List Op → Message
  clock_told : List (ℕ × ℕ) → Message

-- The states of all replicas, and the bag of all that was ever told. A message stays in the bag: it may come to anyone, late, again and again, or
-- never.
pub record World : Type 0 where
  pub machines : List State
  pub bag : List Message

-- is one of the machines
abbrev pub HasMachine : List State → State → Type 0
HasMachine [] m = ⊥
HasMachine (x ∷ xs) m = (x ≡ m) ⊎ HasMachine xs m

-- some message of the bag tells this operation
abbrev pub IsInBag : List Message → Op → Type 0
IsInBag [] op = ⊥
IsInBag (operations_told ops ∷ bag) op = HasOp ops op ⊎ IsInBag bag op
IsInBag (clock_told c ∷ bag) op = IsInBag bag op

-- what an answer puts into the bag: the operations or the clock that it tells
abbrev pub told_by : Answer → List Message
told_by (operations ops) = operations_told ops ∷ []
told_by (clock c) = clock_told c ∷ []
told_by _ = []

-- none of these is that number
abbrev pub IsNoneOf : List ℕ → ℕ → Type 0
IsNoneOf [] number = Unit {0}
IsNoneOf (n ∷ ns) number = (n ≢ number) × IsNoneOf ns number

-- no number stands twice
abbrev pub AreApart : List ℕ → Type 0
AreApart [] = Unit {0}
AreApart (n ∷ ns) = IsNoneOf ns n × AreApart ns

-- the replicas' numbers
abbrev pub numbers_of : List State → List ℕ
numbers_of machines = map (λ m. m.held.replica) machines

-- The replicas' numbers differ, each was opened with an empty list, and nothing was told yet.
pub record IsBeginning (w : World) : Type 0 where
  pub apart : AreApart (numbers_of w.machines)
  pub new : (m : State) → HasMachine w.machines m → (version : ℕ) × (m ≡ opened m.held.replica [] version)
  pub untold : w.bag ≡ []
