-- The pieces that operations are cut into spell just these operations.
use Rattle.std.proofs.Common.{◌≡◌, ℕ, true, inl, inr, List, [], ◌∷◌, ◌++◌, refl, ap, subst}
use Rattle.std.specs.Char.{IsScalar}
use Rattle.std.specs.List.{list_all}
use Rattle.std.proofs.lemmas.Bool.{and_parts, and_from, cases_Bool, le-leb}
use Rattle.op_model.specs.declared.op.Op.{Op}
use Rattle.op_model.specs.declared.op.Body.{Body}
use Rattle.op_pieces.specs.Pieces.{Run, ArePieces, single, longer}
use Rattle.op_pieces.specs.Cutting.{value_of, is_next, goes_on, cut_behind, cut, is_valid}
use Rattle.op_pieces.proofs.PieceLemmas.{next_is}
use Rattle.op_pieces.proofs.CutLemmas.{cut_joined, cut_pieces}
use Rattle.change_codec.specs.declared.format.Format.{Format}
use Rattle.change_codec.specs.Fits.{IsContent, IsOperation}
use Rattle.change_codec.specs.Formats.{IsOf, AreOf}
use Rattle.change_codec.specs.Stream.{AreOperations}
use Rattle.piece_codec.specs.Fits.{AreScalars}
use Rattle.piece_codec.specs.Formats.{has_runs}
use Rattle.piece_codec.specs.Stream.{spelled_pieces, ArePiecesOf, SpellsList}

-- what is typed behind an operation is a scalar value
typed_scalar : (last op : Op) → IsOperation op → is_next last op ≡ true → IsScalar (value_of op.body)
typed_scalar last op fits next =
    let content = subst (λ (b : Body). IsContent b) (ap (λ (o : Op). o.body) (next_is last op next)) fits.body in
    content.1

-- a scalar value more
scalars_more : (vs : List ℕ) (v : ℕ) → AreScalars vs → IsScalar v → AreScalars (vs ++ v ∷ [])
scalars_more [] v are more = (more, tt)
scalars_more (x ∷ xs) v are more = (are.0, scalars_more xs v are.1 more)

-- its first operation is one of the format, and its characters are some
record IsPart (f : Format) (p : Run) : Type 0 where
  first : IsOperation p.first
  others : AreScalars p.others
  tokens : IsOf f p.first

abbrev AreParts : Format → List Run → Type 0
AreParts f [] = Unit {0}
AreParts f (p ∷ ps) = IsPart f p × AreParts f ps

parts_behind : (f : Format) (p : Run) (last : Op) (ops : List Op) → IsPart f p → AreOperations ops → AreOf f ops → AreParts f (cut_behind p last ops)
parts_behind f p last [] part fits of_f = (part, tt)
parts_behind f p last (op ∷ ops) part fits of_f =
    elim (cases_Bool (goes_on p last op)) [
      | inl on ↦
          let scalar = typed_scalar last op fits.0 (and_parts _ _ on).1 in
          let more : IsPart f (longer p (value_of op.body)) = record {
            first = part.first;
            others = scalars_more p.others (value_of op.body) part.others scalar;
            tokens = part.tokens;
          } in
          rw on (parts_behind f (longer p (value_of op.body)) op ops more fits.1 of_f.1)
      | inr off ↦ rw off (part, parts_behind f (single op) op ops (record { first = fits.0; others = tt; tokens = of_f.0 }) fits.1 of_f.1)
    ]

cut_parts : (f : Format) (ops : List Op) → AreOperations ops → AreOf f ops → AreParts f (cut ops)
cut_parts f [] fits of_f = tt
cut_parts f (op ∷ ops) fits of_f = parts_behind f (single op) op ops (record { first = fits.0; others = tt; tokens = of_f.0 }) fits.1 of_f.1

all_parts : (f : Format) (ps : List Run) → has_runs f ≡ true → AreParts f ps → ArePieces ps → ArePiecesOf f ps
all_parts f [] runs parts pieces = tt
all_parts f (p ∷ ps) runs parts pieces =
    let part = parts.0 in (
      record { first = part.first; others = part.others; piece = pieces.0 },
      record { runs = λ none. absurd (let never : ⊥ = cc in never); tokens = part.tokens },
      all_parts f ps runs parts.1 pieces.1,
    )

-- counters and deps of operations are in their ranges
pub are_valid : (ops : List Op) → AreOperations ops → list_all is_valid ops ≡ true
are_valid [] fits = refl
are_valid (op ∷ ops) fits = and_from _ _ (and_from _ _ (le-leb _ _ fits.0.id.in_range) fits.0.deps) (are_valid ops fits.1)

pub cut_spells : (f : Format) (ops : List Op) → has_runs f ≡ true → AreOperations ops → AreOf f ops → SpellsList f ops (spelled_pieces (cut ops))
cut_spells f ops runs fits of_f = record {
  pieces = cut ops;
  of_format = all_parts f (cut ops) runs (cut_parts f ops fits of_f) (cut_pieces ops (are_valid ops fits));
  joined_so = cut_joined ops;
  spelled_so = refl;
}
