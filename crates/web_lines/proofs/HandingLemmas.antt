-- What is handed on comes off the front of what is held.
use Rattle.std.proofs.Common.{◌≡◌, ◌≤◌, ℕ, List, [], ◌∷◌, ◌++◌, Bool, true, false}
use Rattle.std.proofs.Common.{cond, ◌==◌, length, take, drop, refl, sym, ap, ◌∙◌, append_assoc, take-append-drop}
use Rattle.std.proofs.lemmas.Grind.{common_steps}
use Rattle.std.proofs.lemmas.Bool.Decides.{nat_tests}
use Rattle.std.proofs.lemmas.List.{nil_from_length}
use Rattle.std.proofs.Common.{arith}

-- once the text is gone, a line feed that is due is all that is held
pub begins-feed : (held text : List ℕ) (due : Bool) → text ++ cond due (10 ∷ []) [] ≡ held → due ≡ true → true ≡ (length text == 0) → held ≡ (10 ∷ []) ++ cond false (10 ∷ []) []
begins-feed held text due e d z =
    let none : text ≡ [] = nil_from_length text (grind (arith, nat_tests)) in
    sym e ∙ rw (d, none) refl

-- the first n bytes of the text were handed on, and the rest is held
pub hands-front : (held text piece front feed : List ℕ) (n : ℕ) → held ≡ text ++ feed → front ≡ take n text → n ≤ length text
    → held ≡ take n (front ++ drop n piece) ++ (drop n text ++ feed)
hands-front held text piece front feed n e f l =
    let t : take n (take n text ++ drop n piece) ≡ take n text = grind (arith, common_steps) in
    e ∙ rw (f, t) (ap (λ x. x ++ feed) (sym (take-append-drop n text)) ∙ append_assoc (take n text) (drop n text) feed)
