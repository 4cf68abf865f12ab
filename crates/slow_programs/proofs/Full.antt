-- Clocks that count too much, while operations are counted one after another.
use Rattle.std.proofs.Common.{◌≡◌, ℕ, ◌+◌, ◌-◌, ◌<◌, ◌≤◌, List, length, drop, get_or, arith}
use Rattle.std.proofs.lemmas.List.{drop_more}
use Rattle.op_ids.specs.Clock.{advanced, IsOverfull}
use Rattle.op_model.specs.declared.op.Op.{Op}
use Rattle.op_model.specs.Causality.{clock_of}
use Rattle.model_laws.proofs.Overfull.{IsOverfull-clock_of}

-- where the operation before an index is one too many for those from there on, the list has too many
pub is_full_front : (ops : List Op) (i : ℕ) (op : Op) (clock : List (ℕ × ℕ)) (replica : ℕ) → 0 < i → i ≤ length ops
    → clock ≡ clock_of (drop i ops) → replica ≡ (get_or ops (i - 1) op).id.replica → IsOverfull (advanced clock replica) → IsOverfull (clock_of ops)
is_full_front ops i op clock replica some within is_clock is_replica full =
    let here : i - 1 < length ops = omega arith in
    let next : i - 1 + 1 ≡ i = omega arith in
    IsOverfull-clock_of ops (i - 1)
    (rw (drop_more ops (i - 1) op here, next) (rw (is_clock, is_replica) at full))
