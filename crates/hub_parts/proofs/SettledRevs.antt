-- How many operations of a document are settled.
use native.Mathlib.Numerals.{unary_clauses}
use Rattle.std.proofs.Common.{◌≡◌, ◌≢◌, ℕ, zero, suc, ◌+◌, ◌<◌, ◌==◌, true, false, cond, List, [], ◌∷◌, length, drop, get_or, sym, ◌∙◌, ap, arith}
use Rattle.std.proofs.lemmas.Bool.Decides.{nat_tests}
use Rattle.std.proofs.lemmas.List.Sums.{sum_by-cons}
use Rattle.op_model.specs.declared.op.Op.{Op}
use Rattle.op_model.specs.Text.{rev}
use Rattle.op_list.specs.declared.head.OpHead.{OpHead}
use Rattle.op_list.specs.Heads.{heads}

-- of the operations from the i-th on, that one and those after it
rev_from : (ops : List Op) (i doc : ℕ) (head : OpHead) → i < length ops → head ≡ get_or (heads ops) i head
    → rev (drop i ops) doc ≡ cond (head.doc == doc) 1 0 + rev (drop (i + 1) ops) doc
rev_from [] i doc head here is = absurd (omega arith)
rev_from (op ∷ ops) zero doc head here is =
    sum_by-cons (λ (o : Op). cond (o.doc == doc) 1 0) op ops ∙ ap (λ (h : OpHead). cond (h.doc == doc) 1 0 + rev ops doc) (sym is)
rev_from (op ∷ ops) (suc i) doc head here is = simp unary_clauses (simp unary_clauses at (rev_from ops i doc head (omega arith) is))

-- where the i-th one is of the document, there is one less after it
pub one_less : (ops : List Op) (i doc : ℕ) (head : OpHead) → i < length ops → head ≡ get_or (heads ops) i head → head.doc ≡ doc
    → rev (drop i ops) doc ≡ 1 + rev (drop (i + 1) ops) doc
one_less ops i doc head here is same =
    let it : (head.doc == doc) ≡ true = grind (arith, nat_tests) in
    rw it at (rev_from ops i doc head here is)

-- else there are as many
pub as_many : (ops : List Op) (i doc : ℕ) (head : OpHead) → i < length ops → head ≡ get_or (heads ops) i head → head.doc ≢ doc
    → rev (drop i ops) doc ≡ rev (drop (i + 1) ops) doc
as_many ops i doc head here is other =
    let it : (head.doc == doc) ≡ false = grind (arith, nat_tests) in
    let rest : rev (drop i ops) doc ≡ 0 + rev (drop (i + 1) ops) doc = rw it at (rev_from ops i doc head here is) in
    omega (arith, rest)
