-- Lists that have operations of the same makers.
use Rattle.std.specs.Prelude.{◌≡◌, ℕ, List, length, take}
use Rattle.op_model.specs.declared.op.Op.{Op}
use Rattle.op_model.specs.Causality.{made_by}

-- these are the first operations of a history
abbrev pub IsFrontOf : List Op → List Op → Type 0
IsFrontOf ops history = ops ≡ take (length ops) history

-- of each replica both lists have the first operations of one history
abbrev pub HaveOneHistory : List Op → List Op → Type 0
HaveOneHistory a b =
    (replica : ℕ) → (history : List Op)
    × IsFrontOf (made_by replica a) history × IsFrontOf (made_by replica b) history
