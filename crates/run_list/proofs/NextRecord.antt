-- The record of what is typed next.
use Rattle.std.proofs.Common.{◌≡◌, ℕ, ◌≤◌, true, List, [], ◌∷◌, length, take, ap, subst, sym, ◌∙◌, arith}
use Rattle.std.specs.Char.{IsScalar}
use Rattle.std.proofs.lemmas.Bool.{and_parts}
use Rattle.op_model.specs.declared.op.Op.{Op}
use Rattle.op_model.specs.Causality.{is_insert}
use Rattle.op_pieces.specs.Cutting.{is_next}
use Rattle.op_pieces.specs.Pieces.{has_room_behind}
use Rattle.change_codec.specs.Fits.{IsOperation}
use Rattle.change_codec.specs.Formats.{IsOf}
use Rattle.change_codec.specs.Spelling.{spelled}
use Rattle.change_codec.specs.declared.format.Format.{Format}
use Rattle.change_codec.proofs.Lengths.{length_spelled}
use Rattle.piece_codec.proofs.StreamOperations.{typed_operations}
use Rattle.run_list.specs.Reading.{typed_at}
use Rattle.std.proofs.Common.{Option, Some, refl}
use Rattle.op_pieces.specs.Cutting.{value_of}
use Rattle.run_list.specs.Told.{bare_of, IsTypedOn}
use Rattle.run_list.specs.Writer.{IsSpelledNext, KnowsLast}
use Rattle.run_list.proofs.Continuing.{spelled_on}
use Rattle.run_list.proofs.Reading.{typed_more}
use Rattle.run_list.proofs.NextTyped.{typed_is_next}

-- it keeps the rules of its fields, if there is room for it
pub next_fits : (last : Op) (v : ℕ) → IsOperation last → IsScalar v → has_room_behind last 1 ≡ true → IsOperation (typed_at last 1 v)
next_fits last v fits scalar room =
    subst (λ (op : Op). IsOperation op) (typed_more last 0 0 v) (typed_operations last (v ∷ []) fits (scalar, tt) room).0

-- bytes that begin with its spelling begin with it
next_begins : (last : Op) (v : ℕ) (f : Format) (bytes front : List ℕ) → IsOperation (typed_at last 1 v) → has_room_behind last 1 ≡ true → IsOf f last
    → front ≡ spelled (typed_at last 1 v) → length front ≤ length bytes → take (length front) bytes ≡ front
    → IsSpelledNext last f bytes (typed_at last 1 v)
next_begins last v f bytes front fits room of_f spells within same =
    let long = ap length spells ∙ length_spelled (typed_at last 1 v) in
    record {
      next = subst (λ (op : Op). is_next last op ≡ true) (typed_more last 0 0 v) (typed_is_next last v (and_parts (is_insert last.body) _ room).0);
      of_format = of_f;
      begins = record {
        whole = omega arith;
        spelled_so = ap (λ n. take n bytes) (sym long) ∙ same ∙ spells;
        fits = fits;
      };
    }

pub spelled_next : (last op : Op) (v : ℕ) (f : Format) (bytes front : List ℕ) → op ≡ typed_at last 1 v → IsOperation (typed_at last 1 v)
    → has_room_behind last 1 ≡ true → IsOf f last → front ≡ spelled op → length front ≤ length bytes → take (length front) bytes ≡ front
    → IsSpelledNext last f bytes op
spelled_next last op v f bytes front is fits room of_f spells within same =
    rw is (next_begins last v f bytes front fits room of_f (spells ∙ ap spelled is) within same)

-- what is spelled so with another token in place of the last one's goes on with the run
pub typed_next : (ops : List Op) (held : Option Op) (last told op : Op) (f : Format) (bytes : List ℕ) (value : ℕ) → KnowsLast ops held → Some last ≡ held
    → bare_of told ≡ bare_of last → IsSpelledNext told f bytes op → value ≡ value_of op.body → IsTypedOn ops value op.token op
typed_next ops held last told op f bytes value knows is same it types = record {
  on = spelled_on ops last told op (subst (KnowsLast ops) (sym is) knows) same it.next;
  types = types;
  token_so = refl;
  fits = it.begins.fits;
}
