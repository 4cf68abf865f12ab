-- The place of an operation.
use Rattle.std.proofs.Common.{◌≡◌, ℕ, ◌+◌, List, [], ◌∷◌, ◌++◌, length, refl}
use Rattle.op_model.specs.declared.op.Op.{Op}
use Rattle.op_model.specs.Text.{rev}
use Rattle.edit_tokens.specs.Places.{place_at}

-- the place of an operation behind others
pub place_behind : (list : List Op) (op : Op) (end revs : ℕ) → end ≡ length list + 1 → revs ≡ rev (list ++ op ∷ []) op.doc
    → place_at (list, op) ≡ record { end = end; rev = revs }
place_behind list op end revs ends counts = rw (← ends, ← counts) refl
