-- Numbers in rising order.
use Rattle.std.specs.Prelude.{◌≡◌, ◌≤◌, ◌<◌, ℕ, List, [], ◌∷◌, ◌++◌, length, take, drop, slice_index_or, Result, MatchResult}
use Rattle.op_model.specs.Spans.{with_number}

-- all of these are greater than a number
abbrev pub AllOver : ℕ → List ℕ → Type 0
AllOver n [] = Unit {0}
AllOver n (m ∷ ms) = (n < m) × AllOver n ms

-- they rise
abbrev pub IsUp : List ℕ → Type 0
IsUp [] = Unit {0}
IsUp (n ∷ ns) = AllOver n ns × IsUp ns

-- the index of a number among these, which rise, or where it goes among them
abbrev pub IsPlace : List ℕ → ℕ → Result ℕ ℕ → Type 0
IsPlace ns n place = MatchResult place
    (λ at. (at < length ns) × (n ≡ slice_index_or ns at n) × (with_number n ns ≡ ns))
    (λ at. (at ≤ length ns) × (with_number n ns ≡ take at ns ++ n ∷ drop at ns))
