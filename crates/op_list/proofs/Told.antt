-- What a test of two lists of bytes tells.
use Rattle.std.proofs.Common.{◌≡◌, ℕ, Bool, true, false, nat_eq, List, refl}
use Rattle.std.specs.Prelude.{IsTrue}
use Rattle.std.specs.Cmp.Lexicographic.{pointwise, same_text, other_text}

-- whether they are the same
pub told : (same : Bool) (x y : List ℕ) → same ≡ pointwise nat_eq x y → (IsTrue same → x ≡ y) × (x ≡ y → IsTrue same)
told true x y is = (λ _. same_text x y is, λ _. refl)
told false x y is = (λ none. absurd cc, λ same. absurd (other_text x y is same))
