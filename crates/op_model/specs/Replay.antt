-- What the steps that a replica kept since it was opened say of its list. Steps are listed newest first.
use Rattle.std.specs.Prelude.{◌≡◌, ◌≢◌, ℕ, ◌+◌, ◌≤◌, List, [], ◌∷◌, ◌++◌, length, take, Contains}
use Rattle.op_model.specs.declared.op.Op.{Op}
use Rattle.op_model.specs.Causality.{MayFollow}
use Rattle.op_model.specs.Actions.{Asked, made_by_action}

-- an action of a session, with the index of its first operation and how many it made; a peer's operation at an index; a
-- settlement of a given number of operations
pub data Kept : Type 0 where
  edited : ℕ → Asked → ℕ → ℕ → Kept
  merged : ℕ → ℕ → Kept
  settlement : ℕ → Kept

-- the lengths that the list had at opening and after each step, the last first
abbrev pub reached : ℕ → List Kept → List ℕ
reached opened [] = opened ∷ []
reached opened (edited session edit first count ∷ steps) = (first + count) ∷ reached opened steps
reached opened (merged peer index ∷ steps) = (index + 1) ∷ reached opened steps
reached opened (settlement n ∷ steps) = reached opened steps

-- the settled number: the last one, or the length at opening
abbrev pub settled_number : ℕ → List Kept → ℕ
settled_number opened [] = opened
settled_number opened (settlement n ∷ steps) = n
settled_number opened (edited session edit first count ∷ steps) = settled_number opened steps
settled_number opened (merged peer index ∷ steps) = settled_number opened steps

-- a peer's operation came to the list, which it may follow
pub record Joins (replica : ℕ) (list : List Op) (op : Op) : Type 0 where
  pub follows : MayFollow list op
  pub foreign : op.id.replica ≢ replica

-- replaying the steps from the opened list gives this list
abbrev pub Replays : ℕ → List Op → List Kept → List Op → Type 0
Replays replica opened [] list = list ≡ opened
-- an action's operations are those that it makes after all before it
Replays replica opened (edited session edit first count ∷ steps) list =
    (list ≡ take first list ++ made_by_action (take first list) replica edit) × (length list ≡ first + count)
    × Replays replica opened steps (take first list)
-- a merged operation may follow all before it
Replays replica opened (merged peer index ∷ steps) list =
    (op : Op) × (list ≡ take index list ++ op ∷ []) × (length list ≡ index + 1) × Joins replica (take index list) op
    × Replays replica opened steps (take index list)
-- a settlement is of a length that the list had, so it cuts no edit, and doesn't go back
Replays replica opened (settlement n ∷ steps) list =
    Contains (reached (length opened) steps) n × (settled_number (length opened) steps ≤ n)
    × Replays replica opened steps list
