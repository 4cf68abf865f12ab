-- The records of pieces, one after another, determine the operations that they make up.
use Rattle.std.proofs.Common.{◌≡◌, ℕ, ◌+◌, ◌<◌, ◌≤◌, List, [], ◌∷◌, ◌++◌, length, refl, sym, ap, ◌∙◌, append_assoc, arith}
use Rattle.std.proofs.lemmas.List.{append-nil, length-append, length-take, take_at}
use Rattle.op_model.specs.declared.op.Op.{Op}
use Rattle.op_model.specs.Records.{stream_length}
use Rattle.op_pieces.specs.Pieces.{Run, single, ops_of, joined}
use Rattle.change_codec.specs.declared.format.Format.{Format}
use Rattle.change_codec.specs.declared.format.Format.TheVariants.{First, Second, Third}
use Rattle.change_codec.specs.Formats.{AreOf}
use Rattle.change_codec.specs.Stream.{spelled_all, AreOperations}
use Rattle.change_codec.proofs.Lengths.{length_spelled}
use Rattle.piece_codec.specs.Fits.{IsWhole}
use Rattle.piece_codec.specs.Formats.{IsPieceOf}
use Rattle.piece_codec.specs.Record.{BeginsWithPiece, BeginsWithOneOf}
use Rattle.piece_codec.specs.Spelling.{spelled_with, spelled_piece}
use Rattle.piece_codec.specs.Stream.{spelled_pieces, ArePiecesOf, SpellsList}
use Rattle.piece_codec.proofs.LengthLaws.{length-spelled_run, piece_no_longer}
use Rattle.piece_codec.proofs.PieceLaws.{none_begins_another}

-- ---- one list

-- a record has some bytes
spelled_some : (p : Run) → 0 < length (spelled_piece p)
spelled_some p = by_others p.first p.others
  where
    by_others : (op : Op) (vs : List ℕ) → 0 < length (spelled_with op vs)
    by_others op [] = omega (arith, length_spelled op)
    by_others op (v ∷ vs) = omega (arith, length-spelled_run op (v ∷ vs))

-- records aren't nothing
some_records : (p : Run) (bytes : List ℕ) → spelled_piece p ++ bytes ≡ [] → ⊥
some_records p bytes is = absurd (omega (arith, ap length is, length-append (spelled_piece p) bytes, spelled_some p))

-- the records of pieces are those of no others
pieces_determined : (f g : Format) (ps qs : List Run) → ArePiecesOf f ps → ArePiecesOf g qs → spelled_pieces ps ≡ spelled_pieces qs → ps ≡ qs
pieces_determined f g [] [] of_p of_q is = refl
pieces_determined f g [] (q ∷ qs) of_p of_q is = absurd (some_records q (spelled_pieces qs) (sym is))
pieces_determined f g (p ∷ ps) [] of_p of_q is = absurd (some_records p (spelled_pieces ps) is)
pieces_determined f g (p ∷ ps) (q ∷ qs) of_p of_q is =
    let both = none_begins_another p q (spelled_pieces ps) (spelled_pieces qs) of_p.0 of_q.0 is in
    let others = pieces_determined f g ps qs of_p.2 of_q.2 both.1 in
    λ i. both.0 i ∷ others i

pub one_list : (f g : Format) (a b : List Op) (bytes : List ℕ) → SpellsList f a bytes → SpellsList g b bytes → a ≡ b
one_list f g a b bytes x y =
    sym x.joined_so
    ∙ ap (λ (ps : List Run). joined ps) (pieces_determined f g x.pieces y.pieces x.of_format y.of_format (x.spelled_so ∙ sym y.spelled_so))
    ∙ y.joined_so

-- ---- a later format

are_later : (f g : Format) (ps : List Run) → ((p : Run) → IsPieceOf f p → IsPieceOf g p) → ArePiecesOf f ps → ArePiecesOf g ps
are_later f g [] each of_f = tt
are_later f g (p ∷ ps) each of_f = (of_f.0, each p of_f.1, are_later f g ps each of_f.2)

later : (f g : Format) (ops : List Op) (bytes : List ℕ) → ((p : Run) → IsPieceOf f p → IsPieceOf g p) → SpellsList f ops bytes → SpellsList g ops bytes
later f g ops bytes each s = record {
  pieces = s.pieces;
  of_format = are_later f g s.pieces each s.of_format;
  joined_so = s.joined_so;
  spelled_so = s.spelled_so;
}

pub first_is_second : (ops : List Op) (bytes : List ℕ) → SpellsList First ops bytes → SpellsList Second ops bytes
first_is_second ops bytes s = later First Second ops bytes (λ p of_first. record { runs = λ none. absurd (let never : ⊥ = cc in never); tokens = of_first.tokens }) s

pub second_is_third : (ops : List Op) (bytes : List ℕ) → SpellsList Second ops bytes → SpellsList Third ops bytes
second_is_third ops bytes s =
    later Second Third ops bytes (λ p of_second. record { runs = λ none. absurd (let never : ⊥ = cc in never); tokens = λ none. absurd (let never : ⊥ = cc in never) }) s

-- ---- one behind another

pub nothing : (f : Format) → SpellsList f [] []
nothing f = record { pieces = []; of_format = tt; joined_so = refl; spelled_so = refl }

pub one_piece : (f : Format) (p : Run) → IsPieceOf f p → IsWhole p → SpellsList f (ops_of p) (spelled_piece p)
one_piece f p of_format whole = record {
  pieces = p ∷ [];
  of_format = (whole, of_format, tt);
  joined_so = append-nil (ops_of p);
  spelled_so = append-nil (spelled_piece p);
}

joined-append : (a b : List Run) → joined (a ++ b) ≡ joined a ++ joined b
joined-append [] b = refl
joined-append (p ∷ ps) b = ap (λ ops. ops_of p ++ ops) (joined-append ps b) ∙ sym (append_assoc (ops_of p) (joined ps) (joined b))

pub spelled_pieces-append : (a b : List Run) → spelled_pieces (a ++ b) ≡ spelled_pieces a ++ spelled_pieces b
spelled_pieces-append [] b = refl
spelled_pieces-append (p ∷ ps) b =
    ap (λ bytes. spelled_piece p ++ bytes) (spelled_pieces-append ps b) ∙ sym (append_assoc (spelled_piece p) (spelled_pieces ps) (spelled_pieces b))

are_both : (f : Format) (a b : List Run) → ArePiecesOf f a → ArePiecesOf f b → ArePiecesOf f (a ++ b)
are_both f [] b of_a of_b = of_b
are_both f (p ∷ ps) b of_a of_b = (of_a.0, of_a.1, are_both f ps b of_a.2 of_b)

pub both_join : (f : Format) (a b : List Op) (x y : List ℕ) → SpellsList f a x → SpellsList f b y → SpellsList f (a ++ b) (x ++ y)
both_join f a b x y s t = record {
  pieces = s.pieces ++ t.pieces;
  of_format = are_both f s.pieces t.pieces s.of_format t.of_format;
  joined_so = joined-append s.pieces t.pieces ∙ (λ i. s.joined_so i ++ t.joined_so i);
  spelled_so = spelled_pieces-append s.pieces t.pieces ∙ (λ i. s.spelled_so i ++ t.spelled_so i);
}

-- ---- how long it is

stream_length-append : (a b : List Op) → stream_length (a ++ b) ≡ stream_length a + stream_length b
stream_length-append [] b = omega arith
stream_length-append (op ∷ ops) b = omega (arith, stream_length-append ops b)

pieces_no_longer : (f : Format) (ps : List Run) → ArePiecesOf f ps → length (spelled_pieces ps) ≤ stream_length (joined ps)
pieces_no_longer f [] of_f = omega arith
pieces_no_longer f (p ∷ ps) of_f =
    omega (
      arith,
      length-append (spelled_piece p) (spelled_pieces ps),
      stream_length-append (ops_of p) (joined ps),
      piece_no_longer p of_f.0.piece,
      pieces_no_longer f ps of_f.2,
    )

pub no_longer : (f : Format) (ops : List Op) (bytes : List ℕ) → SpellsList f ops bytes → length bytes ≤ stream_length ops
no_longer f ops bytes s =
    omega (arith, pieces_no_longer f s.pieces s.of_format, ap length s.spelled_so, ap stream_length s.joined_so)

-- ---- single records

pub single_records : (f : Format) (ops : List Op) → AreOperations ops → AreOf f ops → SpellsList f ops (spelled_all ops)
single_records f [] fits of_f = nothing f
single_records f (op ∷ ops) fits of_f =
    let rest = single_records f ops fits.1 of_f.1 in
    record {
      pieces = single op ∷ rest.pieces;
      of_format = (record { first = fits.0; others = tt; piece = refl }, record { runs = λ none. refl; tokens = of_f.0 }, rest.of_format);
      joined_so = ap (λ more. op ∷ more) rest.joined_so;
      spelled_so = ap (λ more. spelled_piece (single op) ++ more) rest.spelled_so;
    }

-- ---- what begins with records goes on with records

pieces_behind : (f g : Format) (ps qs : List Run) (rest : List ℕ) → ArePiecesOf f ps → ArePiecesOf g qs → spelled_pieces qs ≡ spelled_pieces ps ++ rest
    → (b : List Op) × SpellsList g b rest × (joined qs ≡ joined ps ++ b)
pieces_behind f g [] qs rest of_p of_q is = (joined qs, record { pieces = qs; of_format = of_q; joined_so = refl; spelled_so = is }, refl)
pieces_behind f g (p ∷ ps) [] rest of_p of_q is =
    absurd (some_records p (spelled_pieces ps ++ rest) (sym (append_assoc (spelled_piece p) (spelled_pieces ps) rest) ∙ sym is))
pieces_behind f g (p ∷ ps) (q ∷ qs) rest of_p of_q is =
    let both = none_begins_another q p (spelled_pieces qs) (spelled_pieces ps ++ rest) of_q.0 of_p.0 (is ∙ append_assoc (spelled_piece p) (spelled_pieces ps) rest) in
    let behind = pieces_behind f g ps qs rest of_p.2 of_q.2 both.1 in
    (behind.0, behind.1, (λ i. ops_of (both.0 i) ++ behind.2 i) ∙ sym (append_assoc (ops_of p) (joined ps) behind.0))

pub goes_on : (f g : Format) (a all : List Op) (x y : List ℕ) → SpellsList f a x → SpellsList g all (x ++ y) → (b : List Op) × SpellsList g b y × (all ≡ a ++ b)
goes_on f g a all x y s t =
    let behind = pieces_behind f g s.pieces t.pieces y s.of_format t.of_format (t.spelled_so ∙ ap (λ bytes. bytes ++ y) (sym s.spelled_so)) in
    (behind.0, behind.1, sym t.joined_so ∙ behind.2 ∙ ap (λ ops. ops ++ behind.0) s.joined_so)

-- ---- bytes that are none

-- bytes begin with the first of the records that they are
begins_first : (p : Run) (rest : List ℕ) → IsWhole p → BeginsWithPiece (spelled_piece p ++ rest) p (length (spelled_piece p))
begins_first p rest fits = record {
  whole = omega (arith, length-append (spelled_piece p) rest);
  spelled_so = take_at (spelled_piece p) rest (length (spelled_piece p)) refl;
  fits = fits;
}

first_of_some : (f : Format) (bytes : List ℕ) (ps : List Run) → 0 < length bytes → ArePiecesOf f ps → spelled_pieces ps ≡ bytes → BeginsWithOneOf f bytes
first_of_some f bytes [] some of_f is = absurd (omega (arith, ap length is, some))
first_of_some f bytes (p ∷ ps) some of_f is = (p, length (spelled_piece p), of_f.1, rw (← is) (begins_first p (spelled_pieces ps) of_f.0))

-- some bytes that are a stream begin with a piece of its format
pub begins_with_one : (f : Format) (ops : List Op) (bytes : List ℕ) → 0 < length bytes → SpellsList f ops bytes → BeginsWithOneOf f bytes
begins_with_one f ops bytes some s = first_of_some f bytes s.pieces some s.of_format s.spelled_so

pub no_list : (f : Format) (bytes : List ℕ) → 0 < length bytes → ((p : Run) (n : ℕ) → IsPieceOf f p → BeginsWithPiece bytes p n → ⊥)
    → (ops : List Op) → SpellsList f ops bytes → ⊥
no_list f bytes some none ops s = let first = begins_with_one f ops bytes some s in none first.0 first.1 first.2 first.3

-- a record that bytes begin with takes some of them
pub begins_some : (bytes : List ℕ) (p : Run) (n : ℕ) → BeginsWithPiece bytes p n → 0 < n
begins_some bytes p n begins = omega (arith, ap length begins.spelled_so, length-take n bytes, spelled_some p)
