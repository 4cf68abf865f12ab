-- The operations that a stream spells keep their rules.
use Rattle.std.proofs.Common.{◌≡◌, ℕ, suc, ◌^◌, ◌<◌, true, inl, inr, List, [], ◌∷◌, ◌++◌, length, subst, arith}
use Rattle.std.specs.Prelude.{◌==◌, nat_lt}
use Rattle.std.specs.Char.{IsScalar}
use Rattle.std.proofs.lemmas.Bool.{cases_Bool}
use Rattle.op_ids.specs.Clock.{advanced}
use Rattle.op_ids.proofs.RoomLemmas.{first_of_more}
use Rattle.op_model.specs.declared.op.Op.{Op}
use Rattle.op_pieces.specs.Pieces.{Run, next_typed, typed_behind, ops_of, joined, has_room_behind, fits_behind}
use Rattle.op_pieces.proofs.UnrolledLemmas.{room_parts, others_fit}
use Rattle.change_codec.specs.declared.format.Format.{Format}
use Rattle.change_codec.specs.Fits.{HaveSixteen, IsOperation}
use Rattle.change_codec.specs.Formats.{IsOf, AreOf}
use Rattle.change_codec.specs.Stream.{AreOperations}
use Rattle.piece_codec.specs.Fits.{AreScalars}
use Rattle.piece_codec.specs.Stream.{ArePiecesOf, SpellsList}

-- a clock with one operation more has no wider replicas
sixteen_more : (es : List (ℕ × ℕ)) (replica : ℕ) → HaveSixteen es → replica < 2 ^ 128 → HaveSixteen (advanced es replica)
sixteen_more [] replica have wide = (wide, tt)
sixteen_more (e ∷ es) replica have wide =
    elim (cases_Bool (nat_lt replica e.0)) [
      | inl below ↦ rw below (wide, have)
      | inr above ↦ rw above (elim (cases_Bool (e.0 == replica)) [
        | inl same ↦ rw same (wide, have.1)
        | inr other ↦ rw other (have.0, sixteen_more es replica have.1 wide)
      ])
    ]

-- the next operation keeps the rules
next_operation : (op : Op) (v n : ℕ) → IsOperation op → IsScalar v → has_room_behind op (suc n) ≡ true → IsOperation (next_typed op v)
next_operation op v n fits scalar room =
    let r = room_parts op (suc n) room in
    record {
      id = record {
        above_zero = omega arith;
        in_range = omega (arith, r.counter);
        not_nil = fits.id.not_nil;
        sixteen = fits.id.sixteen;
      };
      doc = fits.doc;
      token = fits.token;
      deps = first_of_more op.deps op.id.replica n fits.deps fits.id.not_nil r.deps;
      replicas = sixteen_more op.deps op.id.replica fits.replicas fits.id.sixteen;
      body = (fits.id, scalar);
    }

pub typed_operations : (op : Op) (vs : List ℕ) → IsOperation op → AreScalars vs → fits_behind op vs ≡ true → AreOperations (typed_behind op vs)
typed_operations op [] fits scalars room = tt
typed_operations op (v ∷ vs) fits scalars room =
    let next = next_operation op v (length vs) fits scalars.0 room in
    (next, typed_operations (next_typed op v) vs next scalars.1 (others_fit op v vs room))

-- each has the token of the first
typed_of : (f : Format) (op : Op) (vs : List ℕ) → IsOf f op → AreOf f (typed_behind op vs)
typed_of f op [] of_f = tt
typed_of f op (v ∷ vs) of_f = (of_f, typed_of f (next_typed op v) vs of_f)

pub both_operations : (a b : List Op) → AreOperations a → AreOperations b → AreOperations (a ++ b)
both_operations [] b fits_a fits_b = fits_b
both_operations (op ∷ ops) b fits_a fits_b = (fits_a.0, both_operations ops b fits_a.1 fits_b)

both_of : (f : Format) (a b : List Op) → AreOf f a → AreOf f b → AreOf f (a ++ b)
both_of f [] b of_a of_b = of_b
both_of f (op ∷ ops) b of_a of_b = (of_a.0, both_of f ops b of_a.1 of_b)

joined_operations : (f : Format) (ps : List Run) → ArePiecesOf f ps → AreOperations (joined ps)
joined_operations f [] of_f = tt
joined_operations f (p ∷ ps) of_f =
    let whole = of_f.0 in
    both_operations (ops_of p) (joined ps) (whole.first, typed_operations p.first p.others whole.first whole.others whole.piece) (joined_operations f ps of_f.2)

joined_of : (f : Format) (ps : List Run) → ArePiecesOf f ps → AreOf f (joined ps)
joined_of f [] of_f = tt
joined_of f (p ∷ ps) of_f =
    both_of f (ops_of p) (joined ps) (of_f.1.tokens, typed_of f p.first p.others of_f.1.tokens) (joined_of f ps of_f.2)

pub stream_operations : (f : Format) (ops : List Op) (bytes : List ℕ) → SpellsList f ops bytes → AreOperations ops × AreOf f ops
stream_operations f ops bytes s =
    (subst (λ (x : List Op). AreOperations x) s.joined_so (joined_operations f s.pieces s.of_format), subst (λ (x : List Op). AreOf f x) s.joined_so (joined_of f s.pieces s.of_format))
