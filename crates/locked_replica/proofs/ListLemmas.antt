-- Fronts of lists.
use Rattle.std.proofs.Common.{◌≡◌, List, [], ◌∷◌, length, take, refl, ap}

-- a front as long as the list is the list
pub take_all : {A : Type 0} (xs : List A) → take (length xs) xs ≡ xs
take_all [] = refl
take_all (x ∷ xs) = ap (λ rest. x ∷ rest) (take_all xs)
