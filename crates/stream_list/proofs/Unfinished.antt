-- What bytes begin with, when more come behind them.
use Rattle.std.proofs.Common.{◌≡◌, ℕ, ◌<◌, ◌≤◌, true, List, [], ◌∷◌, ◌++◌, length, sym, ap, ◌∙◌, arith}
use Rattle.std.specs.Int.{w32}
use Rattle.std.proofs.lemmas.List.{length-append, length-take, take-append-le}
use Rattle.op_model.specs.declared.op.Op.{Op}
use Rattle.op_pieces.specs.Pieces.{Run, fits_behind}
use Rattle.change_codec.specs.declared.format.Format.{Format}
use Rattle.change_codec.specs.declared.format.Format.TheVariants.{Third}
use Rattle.change_codec.specs.Fits.{IsOperation}
use Rattle.change_codec.specs.Spelling.{number_bytes, body_bytes, spelled}
use Rattle.change_codec.proofs.Lengths.{length-bytes32}
use Rattle.change_codec.proofs.RecordLaws.{body_range, of_third}
use Rattle.piece_codec.specs.Fits.{IsWhole}
use Rattle.piece_codec.specs.Record.{BeginsWithPiece}
use Rattle.piece_codec.specs.Spelling.{run_bytes, spelled_run, spelled_with, spelled_piece}
use Rattle.piece_codec.proofs.KindLaws.{run_range}
use Rattle.piece_codec.proofs.RunLaws.{few_others}
use Rattle.piece_codec.proofs.Short.{piece_short}
use Rattle.piece_codec.proofs.StreamLaws.{begins_some}
use Rattle.stream_list.specs.declared.front.Front.{Front}
use Rattle.stream_list.specs.Fronts.{BeginsWithFront, BeginsWithNone}

-- ---- more bytes behind

-- no bytes begin with no piece
pub nothing_begins : (f : Format) → BeginsWithNone f []
nothing_begins f p n of_format begins = omega (arith, begins_some [] p n begins, begins.whole)

-- bytes that begin with a piece still do
piece_stays : (bytes more : List ℕ) (p : Run) (n : ℕ) → BeginsWithPiece bytes p n → BeginsWithPiece (bytes ++ more) p n
piece_stays bytes more p n begins = record {
  whole = omega (arith, begins.whole, length-append bytes more);
  spelled_so = take-append-le n bytes more begins.whole ∙ begins.spelled_so;
  fits = begins.fits;
}

pub front_stays : (f : Format) (bytes more : List ℕ) (front : Front) → BeginsWithFront f bytes front → BeginsWithFront f (bytes ++ more) front
front_stays f bytes more front begins = record {
  piece = begins.piece;
  of_format = begins.of_format;
  begins = piece_stays bytes more begins.piece front.len begins.begins;
  counted = begins.counted;
  measured = begins.measured;
  within = begins.within;
}

-- bytes that are as long as the longest record, and begin with none, still don't
pub none_stays : (f : Format) (bytes more : List ℕ) → 1511 ≤ length bytes → BeginsWithNone f bytes → BeginsWithNone f (bytes ++ more)
none_stays f bytes more long none p n of_format begins =
    let size : n ≤ length bytes =
    omega (arith, ap length begins.spelled_so, length-take n (bytes ++ more), begins.whole, piece_short p begins.fits, long) in
    none p n of_format (record {
      whole = size;
      spelled_so = sym (take-append-le n bytes more size) ∙ begins.spelled_so;
      fits = begins.fits;
    })
