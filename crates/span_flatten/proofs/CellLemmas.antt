-- Cells that are read one after another.
use Rattle.std.proofs.Common.{◌≡◌, ℕ, zero, suc, ◌+◌, List, [], ◌∷◌, ◌++◌, take, Some, None, refl, ◌∙◌, ap, arith}
use Rattle.std.specs.Prelude.{slice_get}
use Rattle.char_sequence.specs.declared.cell.Cell.{Cell}

-- one more
pub more : (cs : List Cell) (n : ℕ) (c : Cell) → slice_get cs n ≡ Some c → take (suc n) cs ≡ take n cs ++ c ∷ []
more [] n c there = absurd (cc)
more (x ∷ cs) zero c there = let same : x ≡ c = cc in ap (λ d. d ∷ []) same
more (x ∷ cs) (suc n) c there = ap (λ rest. x ∷ rest) (more cs n c there)

pub read_more : (cs found now : List Cell) (n long : ℕ) (c : Cell) → slice_get cs n ≡ Some c → found ≡ take n cs → now ≡ found ++ c ∷ []
    → long ≡ n + 1 → now ≡ take long cs
read_more cs found now n long c there are is_now is_long =
    let up : long ≡ suc n = omega arith in
    rw (up, more cs n c there) (is_now ∙ ap (λ front. front ++ c ∷ []) are)

-- all of them
pub read_all : (cs : List Cell) (n : ℕ) → slice_get cs n ≡ None → take n cs ≡ cs
read_all [] zero none = refl
read_all [] (suc n) none = refl
read_all (x ∷ cs) zero none = absurd (cc)
read_all (x ∷ cs) (suc n) none = ap (λ rest. x ∷ rest) (read_all cs n none)
