-- What one more operation, or several, make of a document.
use Rattle.std.proofs.Common.{◌≡◌, ℕ, ◌+◌, true, cond, List, [], ◌∷◌, ◌++◌, length, refl, ap, ◌∙◌, append_assoc, append-nil, arith}
use Rattle.std.specs.Prelude.{◌==◌, min}
use Rattle.std.proofs.lemmas.Bool.Decides.{nat_tests}
use Rattle.std.proofs.lemmas.List.Sums.{sum_by-append}
use Rattle.list_counts.specs.Documents.{first_writers, with_all}
use Rattle.list_counts.proofs.WriterLemmas.{first_writers-push}
use Rattle.op_model.specs.declared.op.Op.{Op}
use Rattle.op_model.specs.Text.{rev}
use Rattle.char_sequence.specs.Content.{FitAfter}
use Rattle.doc_core.specs.Standing.{counted}

-- an operation of the document counts
pub rev-push : (ops : List Op) (doc : ℕ) (op : Op) → op.doc ≡ doc → rev (ops ++ op ∷ []) doc ≡ rev ops doc + 1
rev-push ops doc op same =
    let it : (op.doc == doc) ≡ true = grind (arith, nat_tests) in
    sum_by-append (λ o. cond (o.doc == doc) 1 0) ops (op ∷ []) ∙ rw it (omega arith)

-- so do several that fit
pub rev-all : (ops : List Op) (doc : ℕ) (edit : List Op) → FitAfter ops doc edit → rev (ops ++ edit) doc ≡ rev ops doc + length edit
rev-all ops doc [] fit = rw append-nil (omega arith)
rev-all ops doc (op ∷ edit) fit =
    let rest = rw append_assoc at (rev-all (ops ++ op ∷ []) doc edit fit.1) in
    let first = rev-push ops doc op fit.0.same in
    rest ∙ omega arith

-- several that fit were all made by writers of the document
pub writers-all : (ops : List Op) (doc : ℕ) (edit : List Op) → FitAfter ops doc edit
    → first_writers (ops ++ edit) doc ≡ with_all (first_writers ops doc) edit
writers-all ops doc [] fit = rw append-nil refl
writers-all ops doc (op ∷ edit) fit =
    let rest = rw append_assoc at (writers-all (ops ++ op ∷ []) doc edit fit.1) in
    rest ∙ ap (λ known. with_all known edit) (first_writers-push ops doc op fit.0.same)

-- counts that stay at their greatest
pub counted-more : (now n more total : ℕ) → now ≡ counted n → total ≡ n + more → min (now + more) 18446744073709551615 ≡ counted total
counted-more now n more total is_counted is_total = omega arith
