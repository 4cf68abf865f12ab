-- Which mark operation about a comment has the greatest id.
use Rattle.std.specs.Prelude.{◌≡◌, ◌⊎◌, ℕ, IsTrue, List, Contains}
use Rattle.op_ids.specs.Id.{is_below}
use Rattle.op_model.specs.declared.mark.MarkKey.TheVariants as key
use Rattle.op_model.specs.declared.marking.Marking.{Marking}

-- mark operations of the set with the same id are the same
abbrev pub HasDistinctIds : List Marking → Type 0
HasDistinctIds set = (m n : Marking) → Contains set m → Contains set n → m.id ≡ n.id → m ≡ n

-- of the mark operations of the set about a comment this one has the greatest id
pub record IsGreatestAbout (set : List Marking) (id : ℕ) (m : Marking) : Type 0 where
  pub member : Contains set m
  pub about : m.key ≡ key.Comment id
  -- each other one is below it
  pub greatest : (n : Marking) → Contains set n → n.key ≡ key.Comment id → (n ≡ m) ⊎ IsTrue (is_below n.id m.id)
