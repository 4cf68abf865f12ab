-- The records of operations aren't all zero.
use Rattle.std.proofs.Common.{◌≡◌, ◌≢◌, ℕ, ◌<◌, Bool, true, false, List, [], ◌∷◌, ◌++◌, length, ap, sym, ◌∙◌, arith, append_assoc}
use Rattle.std.specs.Prelude.{is_some}
use Rattle.std.specs.Int.{w32}
use Rattle.std.proofs.lemmas.Bool.Decides.{nat_tests}
use Rattle.op_model.specs.declared.op.Op.{Op}
use Rattle.op_model.specs.declared.op.Body.{Body}
use Rattle.op_model.specs.declared.op.Body.TheVariants.{Insert, Remove, AddMark, RemoveMark}
use Rattle.op_pieces.specs.Pieces.{Run, joined}
use Rattle.change_codec.specs.declared.format.Format.{Format}
use Rattle.change_codec.specs.Spelling.{spelled, body_bytes, kind_byte, tagged, number_bytes}
use Rattle.piece_codec.specs.Spelling.{spelled_with, spelled_run, run_bytes, run_fields}
use Rattle.piece_codec.specs.Stream.{SpellsList, spelled_pieces}
use Rattle.page_file.specs.Pages.{is_zero}

-- bytes of which one isn't zero aren't all zero
not_zero : (before : List ℕ) (kind : ℕ) (rest : List ℕ) → kind ≢ 0 → is_zero (before ++ kind ∷ rest) ≡ false
not_zero [] kind rest other = grind (arith, nat_tests)
not_zero (x ∷ xs) kind rest other = let more = not_zero xs kind rest other in grind (arith, nat_tests)

-- the record of an operation isn't all zero: its kind isn't
some_record : (op : Op) (rest : List ℕ) → is_zero (spelled op ++ rest) ≡ false
unfolding spelled body_bytes
some_record op rest =
    ap is_zero (append_assoc (number_bytes w32 (length (body_bytes op))) (body_bytes op) rest)
    ∙ not_zero (number_bytes w32 (length (body_bytes op))) (tagged (is_some op.token) (kind_byte op.body)) _ (some_tag (is_some op.token) op.body)
  where
    some_kind : (body : Body) → 0 < kind_byte body
    some_kind (Insert origin value) = omega arith
    some_kind (Remove target) = omega arith
    some_kind (AddMark mark start end) = omega arith
    some_kind (RemoveMark key start end) = omega arith

    some_tag : (has_token : Bool) (body : Body) → tagged has_token (kind_byte body) ≢ 0
    some_tag false body is = absurd (omega (arith, is, some_kind body))
    some_tag true body is = absurd (omega (arith, is))

-- nor is that of a run
some_run : (op : Op) (others rest : List ℕ) → is_zero (spelled_run op others ++ rest) ≡ false
unfolding spelled_run run_bytes
some_run op others rest =
    ap is_zero (append_assoc (number_bytes w32 (length (run_bytes op others))) (run_bytes op others) rest)
    ∙ not_zero (number_bytes w32 (length (run_bytes op others))) (tagged (is_some op.token) 5) (run_fields op others ++ rest) (some_tag (is_some op.token))
  where
    some_tag : (has_token : Bool) → tagged has_token 5 ≢ 0
    some_tag false is = absurd (omega (arith, is))
    some_tag true is = absurd (omega (arith, is))

some_piece : (op : Op) (others rest : List ℕ) → is_zero (spelled_with op others ++ rest) ≡ false
some_piece op [] rest = some_record op rest
some_piece op (v ∷ vs) rest = some_run op (v ∷ vs) rest

-- what spells some operations isn't all zero
pub some_spelled : (format : Format) (ops : List Op) (bytes : List ℕ) → SpellsList format ops bytes → 0 < length ops → is_zero bytes ≡ false
some_spelled format ops bytes spells some = by_pieces spells.pieces spells.joined_so spells.spelled_so
  where
    by_pieces : (ps : List Run) → joined ps ≡ ops → spelled_pieces ps ≡ bytes → is_zero bytes ≡ false
    by_pieces [] is written = absurd (omega (arith, some, ap length is))
    by_pieces (p ∷ ps) is written = ap is_zero (sym written) ∙ some_piece p.first p.others (spelled_pieces ps)
