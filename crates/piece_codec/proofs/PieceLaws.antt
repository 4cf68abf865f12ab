-- Whole pieces at the front of bytes.
use Rattle.std.proofs.Common.{◌≡◌, ℕ, ◌<◌, Bool, true, false, List, [], ◌∷◌, ◌++◌, get_or}
use Rattle.std.proofs.Common.{length, take, drop, Option, Some, None, Ok, refl, sym}
use Rattle.std.proofs.Common.{ap, subst, ◌∙◌, arith, inl, inr}
use Rattle.std.specs.Prelude.{is_some}
use Rattle.std.proofs.lemmas.Bool.{cases_Bool}
use Rattle.std.proofs.lemmas.List.{drop_at, take-append-drop, length-take, get_or-drop, get_or-take}
use Rattle.op_model.specs.declared.op.Op.{Op}
use Rattle.op_pieces.specs.Pieces.{Run, single, has_room_behind, is_piece}
use Rattle.change_codec.specs.declared.format.Format.{Format}
use Rattle.change_codec.specs.declared.format.Format.TheVariants.{Third}
use Rattle.change_codec.specs.Formats.{IsOf}
use Rattle.change_codec.specs.Fits.{IsOperation}
use Rattle.change_codec.specs.Spelling.{number_bytes, kind_byte, tagged, body_bytes, spelled}
use Rattle.change_codec.specs.Record.{length_at, taken}
use Rattle.change_codec.proofs.Steps.{IsBytes, IsBytes-take, IsBytes-drop, bind_ok, done, ok_is}
use Rattle.change_codec.proofs.Framing.{framed_found, found_whole, found_spelled, framed_again}
use Rattle.change_codec.proofs.RecordLaws.{taken_begins, spelled_taken}
use Rattle.piece_codec.specs.Fits.{IsWhole, AreScalars}
use Rattle.piece_codec.specs.Formats.{has_runs, IsPieceOf, run_named}
use Rattle.piece_codec.specs.Reading.{run_at}
use Rattle.piece_codec.specs.Record.{run_body_at, as_piece, taken_as, taken_piece, BeginsWithPiece}
use Rattle.piece_codec.specs.Spelling.{run_fields, run_bytes, spelled_run, spelled_with, spelled_piece}
use Rattle.piece_codec.proofs.KindLaws.{run_range, named_is, named_op, named_run}
use Rattle.piece_codec.proofs.RunLaws.{run_takes, run_again, few_others}

-- ---- what is read is spelled

-- the first of some bytes, and those behind it
first_and_rest : (xs : List ℕ) → 0 < length xs → xs ≡ get_or xs 0 0 ∷ drop 1 xs
first_and_rest [] some = absurd (omega arith)
first_and_rest (x ∷ xs) some = refl

-- no token where none is said
no_token : (token : Option ℕ) → false ≡ is_some token → token ≡ None
no_token None e = refl
no_token (Some token) e = absurd cc

-- some others make it a run
spelled_some : (op : Op) (vs : List ℕ) → 0 < length vs → spelled_with op vs ≡ spelled_run op vs
spelled_some op [] some = absurd (omega arith)
spelled_some op (v ∷ vs) some = refl

run_begins : (f : Format) (has_token : Bool) (bytes : List ℕ) (p : Run) (n : ℕ) → IsBytes bytes → run_named f (get_or bytes 4 0) ≡ Some has_token
    → taken_as (Some has_token) f bytes ≡ Ok (Some (p, n)) → IsPieceOf f p × BeginsWithPiece bytes p n
unfolding spelled_run run_bytes
run_begins f has_token bytes p n fits kind e =
    let len = length_at bytes in
    let rest = drop 4 bytes in
    let body = take len rest in
    let found = framed_found (run_body_at has_token) f bytes p n e in
    let law = run_takes has_token (drop 1 body) p (IsBytes-drop 1 body (IsBytes-take len rest (IsBytes-drop 4 bytes fits))) found.value in
    let named = named_is f (get_or bytes 4 0) has_token kind in
    let tag = is_some p.first.token in
    let first_is : get_or body 0 0 ≡ tagged tag 5 =
    get_or-take len rest 0 0 (omega (arith, found.low)) ∙ get_or-drop 4 bytes 0 0 ∙ named.is ∙ ap (λ t. tagged t 5) law.has in
    let size : length body ≡ len = omega (arith, length-take len rest, found.long) in
    let whole : body ≡ tagged tag 5 ∷ run_fields p.first p.others =
    first_and_rest body (omega (arith, size, found.low)) ∙ (λ i. first_is i ∷ law.parts i) in
    let begins : BeginsWithPiece bytes p n = record {
      whole = found_whole found;
      spelled_so = found_spelled found (tagged tag 5 ∷ run_fields p.first p.others) fits whole ∙ sym (spelled_some p.first p.others law.some);
      fits = law.fits;
    } in
    let of_format : IsPieceOf f p = record {
      runs = λ none. absurd (let runs = named.runs in let never : ⊥ = cc in never);
      tokens = λ none. no_token p.first.token (sym (named.tokens none) ∙ law.has);
    } in
    (of_format, begins)

-- a piece that was found
abbrev found_one : Run × ℕ → Option (Run × ℕ)
found_one x = Some x

-- an operation that was found is a piece
op_begins : (f : Format) (bytes : List ℕ) (p : Run) (n : ℕ) → IsBytes bytes → taken_as None f bytes ≡ Ok (Some (p, n)) → IsPieceOf f p × BeginsWithPiece bytes p n
op_begins f bytes p n fits e =
    let a = bind_ok (taken f bytes) (λ found. Ok (as_piece found)) (Some (p, n)) e in
    by_found a.0 a.1 (ok_is (as_piece a.0) (Some (p, n)) a.2)
  where
    pair_is : (x y : Run × ℕ) → found_one x ≡ found_one y → x ≡ y
    pair_is x y e = cc

    by_found : (found : Option (Op × ℕ)) → taken f bytes ≡ Ok found → as_piece found ≡ Some (p, n) → IsPieceOf f p × BeginsWithPiece bytes p n
    by_found None read is = absurd cc
    by_found (Some x) read is =
        let begins = taken_begins f bytes x.0 x.1 fits read in
        let piece : BeginsWithPiece bytes (single x.0) x.1 = record {
          whole = begins.1.whole;
          spelled_so = begins.1.spelled_so;
          fits = record { first = begins.1.fits; others = tt; piece = refl };
        } in
        let of_format : IsPieceOf f (single x.0) = record { runs = λ none. refl; tokens = begins.0 } in
        subst (λ (y : Run × ℕ). IsPieceOf f y.0 × BeginsWithPiece bytes y.0 y.1) (pair_is (single x.0, x.1) (p, n) is) (of_format, piece)

pub piece_begins : (f : Format) (bytes : List ℕ) (p : Run) (n : ℕ) → IsBytes bytes → taken_piece f bytes ≡ Ok (Some (p, n)) → IsPieceOf f p × BeginsWithPiece bytes p n
unfolding taken_piece
piece_begins f bytes p n fits e = by_kind (run_named f (get_or bytes 4 0)) refl e
  where
    by_kind : (k : Option Bool) → run_named f (get_or bytes 4 0) ≡ k → taken_as k f bytes ≡ Ok (Some (p, n)) → IsPieceOf f p × BeginsWithPiece bytes p n
    by_kind None kind e = op_begins f bytes p n fits e
    by_kind (Some has_token) kind e = run_begins f has_token bytes p n fits kind e

-- ---- what is spelled is read

-- the kind behind the length
op_kind : (op : Op) (rest : List ℕ) → get_or (spelled op ++ rest) 4 0 ≡ tagged (is_some op.token) (kind_byte op.body)
unfolding spelled number_bytes body_bytes
op_kind op rest = refl

run_kind : (op : Op) (vs rest : List ℕ) → get_or (spelled_run op vs ++ rest) 4 0 ≡ tagged (is_some op.token) 5
unfolding spelled_run run_bytes number_bytes
run_kind op vs rest = refl

-- behind its kind a body has its fields
body_fields : (op : Op) (vs : List ℕ) → drop 1 (run_bytes op vs) ≡ run_fields op vs
unfolding run_bytes
body_fields op vs = refl

as_run : (f : Format) (op : Op) (vs rest : List ℕ) → IsOperation op → AreScalars vs → 0 < length vs → has_room_behind op (length vs) ≡ true
    → taken_as (Some (is_some op.token)) f (spelled_run op vs ++ rest) ≡ Ok (Some (record { first = op; others = vs }, length (spelled_run op vs)))
unfolding spelled_run
as_run f op vs rest fits scalars some room =
    let p : Run = record { first = op; others = vs } in
    let has_token = is_some op.token in
    let range = run_range f op vs fits.deps (few_others op (length vs) room) in
    let value : run_body_at has_token (run_bytes op vs) ≡ Ok p = ap (run_at has_token) (body_fields op vs) ∙ run_again op vs fits scalars some room in
    framed_again (run_body_at has_token) f (run_bytes op vs) rest p range.0 range.1 value

spelled_run_taken : (f : Format) (op : Op) (vs rest : List ℕ) → has_runs f ≡ true → IsOf f op → IsOperation op → AreScalars vs → 0 < length vs → has_room_behind op (length vs) ≡ true
    → taken_piece f (spelled_run op vs ++ rest) ≡ Ok (Some (record { first = op; others = vs }, length (spelled_run op vs)))
unfolding taken_piece
spelled_run_taken f op vs rest runs of_format fits scalars some room =
    let kind : run_named f (get_or (spelled_run op vs ++ rest) 4 0) ≡ Some (is_some op.token) =
    ap (run_named f) (run_kind op vs rest) ∙ named_run f (is_some op.token) runs (λ none. ap is_some (of_format none)) in
    ap (λ k. taken_as k f (spelled_run op vs ++ rest)) kind ∙ as_run f op vs rest fits scalars some room

spelled_op_taken : (f : Format) (op : Op) (rest : List ℕ) → IsOf f op → IsOperation op → taken_piece f (spelled op ++ rest) ≡ Ok (Some (single op, length (spelled op)))
unfolding taken_piece
spelled_op_taken f op rest of_format fits =
    let kind : run_named f (get_or (spelled op ++ rest) 4 0) ≡ None = ap (run_named f) (op_kind op rest) ∙ named_op f (is_some op.token) op.body in
    ap (λ k. taken_as k f (spelled op ++ rest)) kind ∙ rw (spelled_taken f op rest of_format fits) refl

pub spelled_piece_taken : (f : Format) (p : Run) (rest : List ℕ) → IsPieceOf f p → IsWhole p → taken_piece f (spelled_piece p ++ rest) ≡ Ok (Some (p, length (spelled_piece p)))
spelled_piece_taken f p rest of_format fits = by_others p.first p.others of_format.runs of_format.tokens fits.first fits.others fits.piece
  where
    by_others : (op : Op) (vs : List ℕ) → (has_runs f ≡ false → vs ≡ []) → IsOf f op → IsOperation op → AreScalars vs → is_piece (record { first = op; others = vs }) ≡ true
        → taken_piece f (spelled_with op vs ++ rest) ≡ Ok (Some (record { first = op; others = vs }, length (spelled_with op vs)))
    by_others op [] runs tokens operation scalars piece = spelled_op_taken f op rest tokens operation
    by_others op (v ∷ vs) runs tokens operation scalars piece =
        let has : has_runs f ≡ true = elim (cases_Bool (has_runs f)) [ inl yes_it ↦ yes_it | inr none ↦ absurd (let empty = runs none in let never : ⊥ = cc in never) ] in
        spelled_run_taken f op (v ∷ vs) rest has tokens operation scalars (omega arith) piece

pub begins_piece : (f : Format) (bytes : List ℕ) (p : Run) (n : ℕ) → IsPieceOf f p → BeginsWithPiece bytes p n → taken_piece f bytes ≡ Ok (Some (p, n))
begins_piece f bytes p n of_format b =
    let whole : spelled_piece p ++ drop n bytes ≡ bytes = ap (λ (w : List ℕ). w ++ drop n bytes) (sym b.spelled_so) ∙ take-append-drop n bytes in
    let size : length (spelled_piece p) ≡ n = ap (λ (w : List ℕ). length w) (sym b.spelled_so) ∙ omega (arith, length-take n bytes, b.whole) in
    ap (taken_piece f) (sym whole) ∙ spelled_piece_taken f p (drop n bytes) of_format b.fits ∙ ap (λ (k : ℕ). done (Some (p, k))) size

-- two readings of one list are one
same_reading : (f g : Run × ℕ) → done (Some f) ≡ done (Some g) → (f.0 ≡ g.0) × (f.1 ≡ g.1)
same_reading f g e = (cc, cc)

-- the third format has every piece
of_third : (p : Run) → IsPieceOf Third p
of_third p = record { runs = λ none. absurd cc; tokens = λ none. absurd cc }

pub none_begins_another : (a b : Run) (x y : List ℕ) → IsWhole a → IsWhole b → spelled_piece a ++ x ≡ spelled_piece b ++ y → (a ≡ b) × (x ≡ y)
none_begins_another a b x y fits_a fits_b e =
    let one = spelled_piece_taken Third a x (of_third a) fits_a in
    let two = spelled_piece_taken Third b y (of_third b) fits_b in
    let same = same_reading (a, length (spelled_piece a)) (b, length (spelled_piece b)) (sym one ∙ ap (taken_piece Third) e ∙ two) in
    let cut_a = drop_at (spelled_piece a) x (length (spelled_piece a)) refl in
    let cut_b = drop_at (spelled_piece b) y (length (spelled_piece b)) refl in
    (same.0, sym cut_a ∙ ap (drop (length (spelled_piece a))) e ∙ ap (λ (k : ℕ). drop k (spelled_piece b ++ y)) same.1 ∙ cut_b)
