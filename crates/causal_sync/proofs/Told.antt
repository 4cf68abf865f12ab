-- The pieces that operations are told in.
use Rattle.std.proofs.Common.{◌≡◌, ℕ, ◌+◌, ◌≤◌, true, false, inl, inr, List, [], ◌∷◌, ◌++◌, length, refl, sym, subst, arith}
use Rattle.std.specs.List.{list_all}
use Rattle.std.proofs.lemmas.Bool.{and_from, cases_Bool, le-leb}
use Rattle.op_model.specs.declared.op.Op.{Op}
use Rattle.op_pieces.specs.Pieces.{Run, next_typed, typed_behind, ops_of, joined, ArePieces, single, longer}
use Rattle.op_pieces.specs.Cutting.{value_of, goes_on, cut_behind, cut, is_valid}
use Rattle.op_pieces.proofs.CutLemmas.{cut_joined, cut_pieces}
use Rattle.change_codec.specs.declared.format.Format.TheVariants.{Third}
use Rattle.change_codec.specs.Stream.{AreOperations}
use Rattle.piece_codec.specs.Fits.{AreScalars}
use Rattle.piece_codec.specs.Stream.{ArePiecesOf}
use Rattle.causal_sync.specs.declared.heard.Heard.TheVariants.{Ops}
use Rattle.causal_sync.specs.Frames.{IsFrame}

-- an open piece, and what is cut behind it
behind_few : (p : Run) (last : Op) (ops : List Op) → (1 ≤ length (cut_behind p last ops)) × (length (cut_behind p last ops) ≤ 1 + length ops)
behind_few p last [] = (omega arith, omega arith)
behind_few p last (op ∷ ops) =
    elim (cases_Bool (goes_on p last op)) [
      | inl on ↦
          let few = behind_few (longer p (value_of op.body)) op ops in
          rw on (few.0, omega (arith, few.1))
      | inr off ↦
          let few = behind_few (single op) op ops in
          rw off (omega arith, omega (arith, few.1))
    ]

-- no more pieces than operations
pub cut_few : (ops : List Op) → length (cut ops) ≤ length ops
cut_few [] = omega arith
cut_few (op ∷ ops) = omega (arith, (behind_few (single op) op ops).1)

-- some operations are some pieces
cut_some : (ops : List Op) → 1 ≤ length ops → 1 ≤ length (cut ops)
cut_some [] some = absurd (omega (arith, some))
cut_some (op ∷ ops) some = (behind_few (single op) op ops).0

-- characters that were typed are scalar values
typed_scalars : (op : Op) (vs : List ℕ) → AreOperations (typed_behind op vs) → AreScalars vs
typed_scalars op [] fits = tt
typed_scalars op (v ∷ vs) fits = (fits.0.body.1, typed_scalars (next_typed op v) vs fits.1)

both_fit : (a b : List Op) → AreOperations (a ++ b) → AreOperations a × AreOperations b
both_fit [] b fits = (tt, fits)
both_fit (op ∷ ops) b fits = let both = both_fit ops b fits.1 in ((fits.0, both.0), both.1)

-- pieces of operations that keep their rules
are_whole : (ps : List Run) → AreOperations (joined ps) → ArePieces ps → ArePiecesOf Third ps
are_whole [] fits are = tt
are_whole (p ∷ ps) fits are =
    let both = both_fit (ops_of p) (joined ps) fits in (
      record { first = both.0.0; others = typed_scalars p.first p.others both.0.1; piece = are.0 },
      record { runs = λ none. absurd (let never : ⊥ = cc in never); tokens = λ none. absurd (let never : ⊥ = cc in never) },
      are_whole ps both.1 are.1,
    )

-- counters and deps of operations are in their ranges
are_valid : (ops : List Op) → AreOperations ops → list_all is_valid ops ≡ true
are_valid [] fits = refl
are_valid (op ∷ ops) fits = and_from _ _ (and_from _ _ (le-leb _ _ fits.0.id.in_range) fits.0.deps) (are_valid ops fits.1)

-- what is told is a frame
pub told_is_frame : (own : ℕ) (ops : List Op) → 1 ≤ length ops → length ops ≤ 64 → AreOperations ops → IsFrame own false (Ops (cut ops))
told_is_frame own ops some most fits =
    let joined_fit : AreOperations (joined (cut ops)) = subst (λ (os : List Op). AreOperations os) (sym (cut_joined ops)) fits in
    (cut_some ops some, omega (arith, cut_few ops, most), are_whole (cut ops) joined_fit (cut_pieces ops (are_valid ops fits)))
