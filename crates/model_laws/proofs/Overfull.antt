-- Clocks that count too much: one more operation leaves them so.
use Rattle.std.proofs.Common.{ℕ, zero, suc, List, [], ◌∷◌, drop}
use Rattle.op_ids.specs.Clock.{advanced, advanced_by, IsOverfull}
use Rattle.op_ids.proofs.FullLemmas.{IsOverfull-advanced}
use Rattle.op_model.specs.declared.op.Op.{Op}
use Rattle.op_model.specs.Causality.{clock_of}

-- a list counts too much where its end does
pub IsOverfull-clock_of : (ops : List Op) (i : ℕ) → IsOverfull (clock_of (drop i ops)) → IsOverfull (clock_of ops)
IsOverfull-clock_of ops zero full = full
IsOverfull-clock_of [] (suc i) full = full
IsOverfull-clock_of (op ∷ ops) (suc i) full = IsOverfull-advanced (clock_of ops) op.id.replica (IsOverfull-clock_of ops i full)

-- more operations leave it so
pub IsOverfull-advanced_by : (clock : List (ℕ × ℕ)) (replica n : ℕ) → IsOverfull clock → IsOverfull (advanced_by clock replica n)
IsOverfull-advanced_by clock replica zero full = full
IsOverfull-advanced_by clock replica (suc n) full =
    IsOverfull-advanced_by (advanced clock replica) replica n (IsOverfull-advanced clock replica full)
