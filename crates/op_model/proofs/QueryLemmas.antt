-- What a query of a map by a number finds.
use Rattle.std.proofs.Common.{◌≡◌, ℕ, ◌==◌, inl, inr, refl, sym, ◌∙◌, arith}
use Rattle.std.specs.BTreeMap.{is_at}
use Rattle.std.specs.Ordering.{nat_cmp}
use Rattle.std.proofs.lemmas.Bool.{cases_order, eq-eqb, ne_eqb, lt-ltb, le-ltb}

-- just its number
pub found_at : (a b : ℕ) → is_at (nat_cmp a) b ≡ (a == b)
found_at a b =
    elim (cases_order a b) [
      | inl same ↦ simp (le-ltb a b (omega arith), eq-eqb a b same) refl
      | inr o ↦ elim o [
        | inl below ↦ simp (lt-ltb a b below, ne_eqb a b (omega arith)) refl
        | inr above ↦ simp (le-ltb a b (omega arith), ne_eqb a b (omega arith)) refl
      ]
    ]

-- and from the other side
pub found_from : (a b : ℕ) → is_at (nat_cmp a) b ≡ (b == a)
found_from a b = found_at a b ∙ elim (cases_order a b) [
  | inl same ↦ rw (eq-eqb a b same, eq-eqb b a (sym same)) refl
  | inr o ↦ elim o [
    | inl below ↦ rw (ne_eqb a b (omega arith), ne_eqb b a (omega arith)) refl
    | inr above ↦ rw (ne_eqb a b (omega arith), ne_eqb b a (omega arith)) refl
  ]
]
