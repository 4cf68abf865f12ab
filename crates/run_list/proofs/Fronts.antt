-- What the first operations of a list begin with.
use Rattle.std.proofs.Common.{◌≡◌, ℕ, ◌<◌, List, length, map, take, get_or, sym, ap, ◌∙◌, arith}
use Rattle.std.proofs.lemmas.List.{take-map, get_or-take, length-take}
use Rattle.op_model.specs.declared.op.Op.{Op}
use Rattle.op_list.specs.Heads.{head_of, heads}
use Rattle.op_list.specs.declared.head.OpHead.{OpHead}

-- the head of an operation among the first ones is its head in the list
pub head_of_front : (list front : List Op) (n i : ℕ) (head : OpHead) → take n list ≡ front → i < length front → head ≡ get_or (heads list) i head
    → head ≡ get_or (heads front) i head
head_of_front list front n i head is within found =
    let shorter = length-take n list in
    let lt : i < n = omega (arith, ap length is, within) in
    found ∙ sym (get_or-take n (map head_of list) i head lt) ∙ ap (λ xs. get_or xs i head) (take-map head_of n list ∙ ap heads is)
