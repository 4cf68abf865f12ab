-- Numbers in rising order rise strictly.
use Rattle.std.proofs.Common.{ℕ, zero, suc, List, [], ◌∷◌, arith}
use Rattle.std.specs.List.Sorted.{IsStrictlyIncreasing}
use native.Mathlib.Numerals.{unary_clauses}
use Rattle.op_model.specs.Rising.{IsUp}
use Rattle.op_model.specs.Spans.{rising}
use Rattle.op_model.proofs.RisingLemmas.{rising_up}

increasing : (ns : List ℕ) → IsUp ns → IsStrictlyIncreasing ns
increasing [] up k inside = absurd (omega arith)
increasing (n ∷ []) up k inside = absurd (omega arith)
increasing (n ∷ m ∷ ns) up zero inside = up.0.0
increasing (n ∷ m ∷ ns) up (suc k) inside =
    simp unary_clauses (simp unary_clauses at (increasing (m ∷ ns) up.1 k (omega arith)))

pub rising_increases : (ns : List ℕ) → IsStrictlyIncreasing (rising ns)
rising_increases ns = increasing (rising ns) (rising_up ns)
