-- What is put behind the gathered tokens, or in place of the last one, seen from behind.
use Rattle.std.proofs.Common.{◌≡◌, ℕ, zero, suc, inl, inr, List, [], ◌∷◌, ◌++◌, length, get_or}
use Rattle.std.proofs.Common.{Some, refl, arith, ◌==◌, reverse}
use Rattle.std.specs.Prelude.{slice_set}
use Rattle.std.proofs.lemmas.Bool.{cases_Bool}
use Rattle.std.proofs.lemmas.Grind.{reverse_onto}
use Rattle.std.proofs.lemmas.List.{reverse-append}
use Rattle.edit_tokens.specs.declared.place.Place.{Place}
use Rattle.edit_tokens.specs.Places.{Puts}
use Rattle.edit_tokens.proofs.FoundLemmas.{puts_front}
use Rattle.op_model.proofs.QueryLemmas.{found_from}

-- one that is put in front
put_first : (es : List (ℕ × Place)) (t : ℕ) (p : Place) → Puts (Some t) (Some p) es ((t, p) ∷ es)
put_first es t p = λ other. rw (found_from other t) refl

pub put_behind : (es : List (ℕ × Place)) (t : ℕ) (p : Place) → Puts (Some t) (Some p) (reverse es) (reverse (es ++ (t, p) ∷ []))
put_behind es t p = rw (reverse-append es ((t, p) ∷ [])) (put_first (reverse es) t p)

-- one that is put in place of the last one, which has the same token
pub put_last : (es : List (ℕ × Place)) (n t : ℕ) (p : Place) → suc n ≡ length es → ((d : ℕ × Place) → (get_or es n d).0 ≡ t)
    → Puts (Some t) (Some p) (reverse es) (reverse (slice_set es n (t, p)))
put_last [] n t p last at = absurd (omega arith)
put_last (x ∷ []) zero t p last at = λ other. elim (cases_Bool (t == other)) [
  | inl same ↦ rw (found_from other t, same) refl
  | inr differs ↦ rw (found_from other t, found_from other x.0, at x, differs) refl
]
put_last (x ∷ []) (suc n) t p last at = absurd (omega arith)
put_last (x ∷ y ∷ ys) zero t p last at = absurd (omega arith)
put_last (x ∷ y ∷ ys) (suc n) t p last at =
    let rest = put_last (y ∷ ys) n t p (omega arith) at in
    rw (reverse_onto (y ∷ ys) x [], reverse_onto (slice_set (y ∷ ys) n (t, p)) x [])
    (puts_front (reverse (y ∷ ys)) (reverse (slice_set (y ∷ ys) n (t, p))) (x ∷ []) t p rest)
