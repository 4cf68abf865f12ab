-- The operations at indexes of a list.
use Rattle.std.proofs.Common.{◌≡◌, ℕ, zero, suc, ◌<◌, List, [], ◌∷◌, ◌++◌, length, take, drop, get_or, Some, refl, sym, ap, arith}
use Rattle.std.specs.Prelude.{slice_get}
use Rattle.op_model.specs.declared.op.Op.{Op}
use Rattle.replica_core.specs.Makers.{at_places, AreBelow}

pub below_at : (n : ℕ) (is : List ℕ) (k x : ℕ) → AreBelow n is → k < length is → x ≡ get_or is k x → x < n
below_at n [] k x below there is_it = absurd (omega arith)
below_at n (i ∷ is) zero x below there is_it = rw is_it below.0
below_at n (i ∷ is) (suc k) x below there is_it = below_at n is k x below.1 (omega arith) is_it

pub below_take : (n k : ℕ) (is : List ℕ) → AreBelow n is → AreBelow n (take k is)
below_take n zero is below = tt
below_take n (suc k) [] below = tt
below_take n (suc k) (i ∷ is) below = (below.0, below_take n k is below.1)

pub below_drop : (n k : ℕ) (is : List ℕ) → AreBelow n is → AreBelow n (drop k is)
below_drop n zero is below = below
below_drop n (suc k) [] below = tt
below_drop n (suc k) (i ∷ is) below = below_drop n k is below.1

-- there is an operation at each index of the list
present : (ops : List Op) (i : ℕ) → i < length ops → (op : Op) × (slice_get ops i ≡ Some op)
present [] i there = absurd (omega arith)
present (x ∷ ops) zero there = (x, refl)
present (x ∷ ops) (suc i) there = present ops i (omega arith)

get_there : (ops : List Op) (i : ℕ) (x : Op) → i < length ops → x ≡ get_or ops i x → slice_get ops i ≡ Some x
get_there [] i x there is_it = absurd (omega arith)
get_there (y ∷ ops) zero x there is_it = ap Some (sym is_it)
get_there (y ∷ ops) (suc i) x there is_it = get_there ops i x (omega arith) is_it

-- the one behind others
pub get_behind : (front : List Op) (op : Op) (ops : List Op) → slice_get (front ++ op ∷ ops) (length front) ≡ Some op
get_behind [] op ops = refl
get_behind (x ∷ front) op ops = get_behind front op ops

pub at_take : (ops : List Op) (k : ℕ) (is : List ℕ) → AreBelow (length ops) is
    → at_places ops (take k is) ≡ take k (at_places ops is)
at_take ops zero is below = refl
at_take ops (suc k) [] below = refl
at_take ops (suc k) (i ∷ is) below =
    let x = present ops i below.0 in
    rw (x.1) (ap (λ rest. x.0 ∷ rest) (at_take ops k is below.1))

pub at_drop : (ops : List Op) (k : ℕ) (is : List ℕ) → AreBelow (length ops) is
    → at_places ops (drop k is) ≡ drop k (at_places ops is)
at_drop ops zero is below = refl
at_drop ops (suc k) [] below = refl
at_drop ops (suc k) (i ∷ is) below =
    let x = present ops i below.0 in
    rw (x.1) (at_drop ops k is below.1)

pub at_length : (ops : List Op) (is : List ℕ) → AreBelow (length ops) is → length (at_places ops is) ≡ length is
at_length ops [] below = refl
at_length ops (i ∷ is) below =
    let x = present ops i below.0 in
    rw (x.1) (ap suc (at_length ops is below.1))

-- the operation at the k-th index is the k-th of them
pub at_one : (ops : List Op) (is : List ℕ) (k i : ℕ) (x : Op) → AreBelow (length ops) is → k < length is → i ≡ get_or is k i
    → x ≡ get_or ops i x → x ≡ get_or (at_places ops is) k x
at_one ops [] k i x below there is_i is_x = absurd (omega arith)
at_one ops (j ∷ is) zero i x below there is_i is_x =
    rw (← is_i, get_there ops i x (rw is_i below.0) is_x) refl
at_one ops (j ∷ is) (suc k) i x below there is_i is_x =
    let y = present ops j below.0 in
    rw (y.1) (at_one ops is k i x below.1 (omega arith) is_i is_x)
