-- A clock with one operation more isn't empty.
use Rattle.std.proofs.Common.{◌≡◌, ℕ, ◌<◌, false, inl, inr, List, [], ◌∷◌, length, arith, refl, sym}
use Rattle.std.specs.Prelude.{◌==◌, nat_lt}
use Rattle.std.proofs.lemmas.Bool.{cases_Bool}
use Rattle.op_ids.specs.Clock.{advanced, is_same_clock}

never_empty : (others : List (ℕ × ℕ)) (replica : ℕ) → is_same_clock [] (advanced others replica) ≡ false
never_empty [] replica = refl
never_empty (e ∷ es) replica =
    elim (cases_Bool (nat_lt replica e.0)) [
      | inl below ↦ rw below refl
      | inr above ↦ elim (cases_Bool (e.0 == replica)) [ inl same ↦ rw (above, same) refl | inr other ↦ rw (above, other) refl ]
    ]

pub none_advanced : (es others : List (ℕ × ℕ)) (replica : ℕ) → length es < 1 → false ≡ is_same_clock es (advanced others replica)
none_advanced [] others replica none = sym (never_empty others replica)
none_advanced (e ∷ es) others replica none = absurd (omega arith)
