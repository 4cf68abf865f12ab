-- The heads of operations, and what they tell of a list.
use Rattle.std.proofs.Common.{◌≡◌, ℕ, zero, suc, ◌<◌, List, [], ◌∷◌, length, get_or, refl, ap, arith}
use Rattle.op_list.specs.declared.head.OpHead.{OpHead}
use Rattle.op_list.specs.Heads.{head_of, heads}
use Rattle.op_model.specs.declared.op.Op.{Op}
use Rattle.replica_core.specs.Makers.{at_places, AreBelow}
use Rattle.replica_core.proofs.PlaceLemmas.{at_length, at_one, below_at}

-- the head at an index is that of the operation there
pub head_back : (ops : List Op) (i : ℕ) (h : OpHead) → i < length ops → h ≡ get_or (heads ops) i h
    → (op : Op) × (op ≡ get_or ops i op) × (h ≡ head_of op)
head_back [] i h there is_it = absurd (omega arith)
head_back (x ∷ ops) zero h there is_it = (x, refl, is_it)
head_back (x ∷ ops) (suc i) h there is_it = head_back ops i h (omega arith) is_it

pub head_there : (ops : List Op) (i : ℕ) (op : Op) → i < length ops → op ≡ get_or ops i op
    → head_of op ≡ get_or (heads ops) i (head_of op)
head_there [] i op there is_it = absurd (omega arith)
head_there (x ∷ ops) zero op there is_it = ap head_of is_it
head_there (x ∷ ops) (suc i) op there is_it = head_there ops i op (omega arith) is_it

-- the head at the k-th index is the k-th of the heads at the indexes
pub head_at_place : (ops : List Op) (is : List ℕ) (k i : ℕ) (h : OpHead) → AreBelow (length ops) is → k < length is → i ≡ get_or is k i
    → h ≡ get_or (heads ops) i h → h ≡ get_or (heads (at_places ops is)) k h
head_at_place ops is k i h below there is_i is_h =
    let x = head_back ops i h (below_at (length ops) is k i below there is_i) is_h in
    let placed = at_one ops is k i x.0 below there is_i x.1 in
    let long = at_length ops is below in
    rw (x.2) (head_there (at_places ops is) k x.0 (omega arith) placed)
