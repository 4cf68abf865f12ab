-- Bytes that are put one after the other.
use Rattle.std.proofs.Common.{◌≡◌, ℕ, List, ◌++◌, append_assoc, Result, Ok, Err, OnOk, ap, ◌∙◌}

-- bytes, and then others
pub then_puts : {T E : Type 0} (r : Result T E) (old mid new first later : List ℕ)
    → mid ≡ old ++ first → OnOk r (new ≡ mid ++ later) → OnOk r (new ≡ old ++ (first ++ later))
then_puts (Ok x) old mid new first later p q = q ∙ ap (λ l. l ++ later) p ∙ append_assoc old first later
then_puts (Err e) old mid new first later p q = tt
