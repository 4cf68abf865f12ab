-- A causally closed list is short enough to be counted.
use Rattle.std.proofs.Common.{◌≡◌, ℕ, ◌<◌, ◌≤◌, ◌^◌, Bool, true, ◌&&◌, nat_le, List, [], ◌∷◌, ◌++◌, length, refl, arith}
use Rattle.std.specs.Prelude.{◌==◌}
use Rattle.std.specs.List.{list_all}
use Rattle.std.proofs.lemmas.Bool.{leb-true}
use Rattle.std.proofs.lemmas.Bool.Decides.{nat_tests}
use Rattle.std.proofs.lemmas.List.Sums.{count_by-le-length}
use Rattle.op_model.specs.declared.op.Op.{Op}
use Rattle.op_model.specs.Causality.{IsCausallyClosed, MayFollow, is_in_range, clock_of, documents}
use Rattle.op_model.specs.Records.{stream_length}
use Rattle.op_model.specs.Placing.{Fits}
use Rattle.op_model.specs.Text.{rev}
use Rattle.model_laws.proofs.Closed.{follows_fits}
use Rattle.model_laws.proofs.Growth.{closed_push}
use Rattle.replica_core.proofs.LimitLemmas.{closed_within}

fourth : (a b c d e : Bool) → (a && (b && c && d && e)) ≡ true → d ≡ true
fourth a b c d e all = grind (arith, nat_tests)

-- a causally closed list has at most 2^24 operations
pub few_operations : (ops : List Op) → IsCausallyClosed ops → length ops ≤ 16777216
few_operations ops closed =
    leb-true (length ops) 16777216 (fourth (list_all is_in_range ops) (nat_le (length (clock_of ops)) 16) (nat_le (length (documents ops)) 1024)
    (nat_le (length ops) 16777216) (nat_le (stream_length ops) 1073741824) (closed_within ops closed))

-- nor has a document more
pub few_of_doc : (ops : List Op) (doc : ℕ) → IsCausallyClosed ops → rev ops doc ≤ 16777216
few_of_doc ops doc closed =
    let few = few_operations ops closed in
    let within = count_by-le-length (λ (op : Op). op.doc == doc) ops in
    omega arith

-- so no document has more than can be counted
pub few_revs : (ops : List Op) (doc : ℕ) → IsCausallyClosed ops → rev ops doc < 2 ^ 64
few_revs ops doc closed = let few = few_of_doc ops doc closed in omega arith

-- and it hasn't with one more operation that may follow
pub few_with : (ops : List Op) (op : Op) (doc : ℕ) → IsCausallyClosed ops → MayFollow ops op → rev (ops ++ op ∷ []) doc < 2 ^ 32
few_with ops op doc closed follows = let few = few_of_doc (ops ++ op ∷ []) doc (closed_push ops op closed follows) in omega arith

-- the number of operations of its document that is told behind an operation that may follow is right, and small
pub rev_told : (ops : List Op) (op : Op) (n : ℕ) → IsCausallyClosed ops → MayFollow ops op
    → (Fits ops op.doc op → rev (ops ++ op ∷ []) op.doc < 2 ^ 64 → n ≡ rev (ops ++ op ∷ []) op.doc) → (n ≡ rev (ops ++ op ∷ []) op.doc) × (n < 2 ^ 32)
rev_told ops op n closed follows says =
    let few = few_with ops op op.doc closed follows in
    let is : n ≡ rev (ops ++ op ∷ []) op.doc = says (follows_fits ops op.doc op follows refl) (omega arith) in
    (is, omega arith)
