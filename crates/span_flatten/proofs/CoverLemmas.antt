-- A mark operation covers a cell where it covers its character.
use Rattle.std.proofs.Common.{◌≡◌, ℕ, suc, ◌+◌, ◌*◌, ◌≤◌, inl, inr, ◌&&◌, List, [], ◌∷◌, length, map, refl, sym, ◌∙◌, ap, arith}
use Rattle.std.specs.Prelude.{nat_le, nat_lt}
use Rattle.std.proofs.lemmas.Bool.{cases_Bool, cases_lt, le-leb, lt-leb}
use Rattle.op_ids.specs.Id.{Id, is_same}
use Rattle.op_model.specs.declared.op.Op.{Op}
use Rattle.op_model.specs.declared.character.Character.{Character}
use Rattle.op_model.specs.declared.anchor.Anchor.TheVariants.{Before, After}
use Rattle.op_model.specs.declared.anchor.Start.{Start}
use Rattle.op_model.specs.declared.anchor.Start.TheVariants as start
use Rattle.op_model.specs.declared.anchor.End.{End}
use Rattle.op_model.specs.declared.anchor.End.TheVariants as end
use Rattle.op_model.specs.declared.marking.Marking.{Marking}
use Rattle.op_model.specs.Places.{index_of, start_place, end_place, covers}
use Rattle.char_sequence.specs.Content.{cell_of}
use Rattle.span_flatten.specs.Covering.{covered_from, covered_to, covers_cell, index_in}

index_same : (ops : List Op) (doc : ℕ) (id : Id) (cs : List Character) → index_in id (map (cell_of ops doc) cs) ≡ index_of id cs
index_same ops doc id [] = refl
index_same ops doc id (c ∷ cs) =
    elim (cases_Bool (is_same c.id id)) [
      | inl e ↦ rw e refl
      | inr e ↦ rw e (ap (λ n. n + 1) (index_same ops doc id cs))
    ]

le_same : (a b c d : ℕ) → (a ≤ b → c ≤ d) → (c ≤ d → a ≤ b) → nat_le a b ≡ nat_le c d
le_same a b c d there back =
    elim (cases_lt b a) [
      | inl h ↦ elim (cases_lt d c) [
        | inl g ↦ lt-leb a b h ∙ sym (lt-leb c d g)
        | inr g ↦ absurd (let less = back g in omega arith)
      ]
      | inr h ↦ le-leb a b h ∙ sym (le-leb c d (there h))
    ]

start_same : (ops : List Op) (doc : ℕ) (cs : List Character) (s : Start) (k : ℕ)
    → nat_le (covered_from (map (cell_of ops doc) cs) s) k ≡ nat_le (start_place cs s) (2 * k + 1)
start_same ops doc cs start.OfText k = le_same 0 k 0 (2 * k + 1) (λ h. omega arith) (λ h. omega arith)
start_same ops doc cs (start.From (Before id)) k =
    ap (λ i. nat_le i k) (index_same ops doc id cs)
    ∙ le_same (index_of id cs) k (2 * index_of id cs + 1) (2 * k + 1) (λ h. omega arith) (λ h. omega arith)
start_same ops doc cs (start.From (After id)) k =
    ap (λ i. nat_le (i + 1) k) (index_same ops doc id cs)
    ∙ le_same (index_of id cs + 1) k (2 * index_of id cs + 2) (2 * k + 1) (λ h. omega arith) (λ h. omega arith)

as_many : (ops : List Op) (doc : ℕ) (cs : List Character) → length (map (cell_of ops doc) cs) ≡ length cs
as_many ops doc [] = refl
as_many ops doc (c ∷ cs) = ap suc (as_many ops doc cs)

end_same : (ops : List Op) (doc : ℕ) (cs : List Character) (e : End) (k : ℕ)
    → nat_lt k (covered_to (map (cell_of ops doc) cs) e) ≡ nat_lt (2 * k + 1) (end_place cs e)
end_same ops doc cs end.OfText k =
    ap (λ n. nat_lt k n) (as_many ops doc cs)
    ∙ le_same (suc k) (length cs) (suc (2 * k + 1)) (2 * length cs + 1) (λ h. omega arith) (λ h. omega arith)
end_same ops doc cs (end.To (Before id)) k =
    ap (λ i. nat_lt k i) (index_same ops doc id cs)
    ∙ le_same (suc k) (index_of id cs) (suc (2 * k + 1)) (2 * index_of id cs + 1) (λ h. omega arith) (λ h. omega arith)
end_same ops doc cs (end.To (After id)) k =
    ap (λ i. nat_lt k (i + 1)) (index_same ops doc id cs)
    ∙ le_same (suc k) (index_of id cs + 1) (suc (2 * k + 1)) (2 * index_of id cs + 2) (λ h. omega arith) (λ h. omega arith)

-- among the cells of these characters a mark operation covers the k-th exactly where it covers the k-th character
pub covers_same : (ops : List Op) (doc : ℕ) (cs : List Character) (k : ℕ) (m : Marking)
    → covers_cell (map (cell_of ops doc) cs) k m ≡ covers cs k m
covers_same ops doc cs k m =
    ap (λ b. b && nat_lt k (covered_to (map (cell_of ops doc) cs) m.end)) (start_same ops doc cs m.start k)
    ∙ ap (λ b. nat_le (start_place cs m.start) (2 * k + 1) && b) (end_same ops doc cs m.end k)
