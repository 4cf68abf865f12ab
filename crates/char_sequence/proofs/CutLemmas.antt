-- Lists that are cut at an index.
use Rattle.std.proofs.Common.{◌≡◌, ℕ, zero, suc, ◌+◌, ◌≤◌, List, [], ◌∷◌, ◌++◌, length, take, drop}
use Rattle.std.proofs.Common.{sym, ◌∙◌, ap, append_assoc, zero-add, arith}
use Rattle.std.proofs.Math.Seq.{take-add, drop-nil}
use Rattle.char_sequence.specs.declared.cell.Cell.{Cell}

drop-drop-add : (n m : ℕ) (cs : List Cell) → drop m (drop n cs) ≡ drop (n + m) cs
drop-drop-add zero m cs = ap (λ k. drop k cs) (sym (zero-add m))
drop-drop-add (suc n) m [] = drop-nil m ∙ sym (drop-nil (suc n + m))
drop-drop-add (suc n) m (c ∷ cs) =
    let shift : suc n + m ≡ suc (n + m) = omega arith in
    rw shift (drop-drop-add n m cs)

-- one cell put in behind a given number of cells, counted from an index on
pub cut_twice : (cs : List Cell) (from by : ℕ) (c : Cell) → from ≤ length cs
    → take from cs ++ (take by (drop from cs) ++ c ∷ drop by (drop from cs)) ≡ take (from + by) cs ++ c ∷ drop (from + by) cs
cut_twice cs from by c within =
    sym (append_assoc (take from cs) (take by (drop from cs)) (c ∷ drop by (drop from cs)))
    ∙ (ap (λ front. front ++ c ∷ drop by (drop from cs)) (sym (take-add from by cs))
    ∙ ap (λ back. take (from + by) cs ++ c ∷ back) (drop-drop-add from by cs))
