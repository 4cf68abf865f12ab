-- The clock of a list counts the operations of each replica, whatever their order.
use Rattle.std.proofs.Common.{◌≡◌, ℕ, ◌<◌, inl, inr, List, [], ◌∷◌, arith, ap, refl, ◌∙◌, sym}
use Rattle.std.proofs.lemmas.Bool.{cases_order, lt-ltb, le-ltb, eq-eqb, ne_eqb}
use Rattle.op_ids.specs.Clock.{count_of, advanced}
use Rattle.op_model.specs.declared.op.Op.{Op}
use Rattle.op_model.specs.Causality.{HaveSameOps, IsCausallyClosed, clock_of}
use Rattle.model_laws.proofs.Same.{same_for_closed}

advanced_swapped_below : (a b : ℕ) (es : List (ℕ × ℕ)) → a < b
    → advanced (advanced es b) a ≡ advanced (advanced es a) b
advanced_swapped_below a b [] h = simp (lt-ltb a b h, le-ltb b a (omega arith), ne_eqb a b (omega arith))
advanced_swapped_below a b (e ∷ es) h =
    elim (cases_order b e.0) [
      | inl k ↦ simp (lt-ltb a b h, le-ltb b a (omega arith), ne_eqb a b (omega arith), le-ltb b e.0 (omega arith), eq-eqb e.0 b (sym k), lt-ltb a e.0 (omega arith))
      | inr o ↦ elim o [
        | inl l ↦ simp (lt-ltb a b h, le-ltb b a (omega arith), ne_eqb a b (omega arith), lt-ltb b e.0 l, lt-ltb a e.0 (omega arith))
        | inr l ↦ elim (cases_order a e.0) [
          | inl k ↦ simp (le-ltb b e.0 (omega arith), ne_eqb e.0 b (omega arith), le-ltb a e.0 (omega arith), eq-eqb e.0 a (sym k), le-ltb b a (omega arith), ne_eqb a b (omega arith))
          | inr q ↦ elim q [
            | inl k ↦ simp (lt-ltb a b h, le-ltb b a (omega arith), ne_eqb a b (omega arith), le-ltb b e.0 (omega arith), ne_eqb e.0 b (omega arith), lt-ltb a e.0 k)
            | inr k ↦ simp (le-ltb b e.0 (omega arith), ne_eqb e.0 b (omega arith), le-ltb a e.0 (omega arith), ne_eqb e.0 a (omega arith))
                (ap (λ xs. e ∷ xs) (advanced_swapped_below a b es h))
          ]
        ]
      ]
    ]

pub advanced_swapped : (a b : ℕ) (es : List (ℕ × ℕ)) → advanced (advanced es b) a ≡ advanced (advanced es a) b
advanced_swapped a b es =
    elim (cases_order a b) [
      | inl e ↦ rw e refl
      | inr o ↦ elim o [ inl h ↦ advanced_swapped_below a b es h | inr h ↦ sym (advanced_swapped_below b a es h) ]
    ]

pub same_clock : (a b : List Op) → IsCausallyClosed a → IsCausallyClosed b → HaveSameOps a b → clock_of a ≡ clock_of b
same_clock a b closed too same = same_for_closed clock_of (λ op es. advanced es op.id.replica) (λ x xs. refl) (λ x y z d. advanced_swapped x.id.replica y.id.replica z) a b closed too same

pub count_advanced_other : (es : List (ℕ × ℕ)) (r s : ℕ) → (r ≡ s → ⊥) → count_of (advanced es r) s ≡ count_of es s
count_advanced_other [] r s d = simp (ne_eqb r s d)
count_advanced_other (e ∷ es) r s d =
    elim (cases_order r e.0) [
      | inl k ↦ simp (le-ltb r e.0 (omega arith), eq-eqb e.0 r (sym k), ne_eqb r s d, ne_eqb e.0 s (λ q. d (k ∙ q)))
      | inr o ↦ elim o [
        | inl l ↦ simp (lt-ltb r e.0 l, ne_eqb r s d)
        | inr l ↦ simp (le-ltb r e.0 (omega arith), ne_eqb e.0 r (omega arith), count_advanced_other es r s d)
      ]
    ]
