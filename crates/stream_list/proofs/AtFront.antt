-- The piece at the front of bytes.
use Rattle.std.proofs.Common.{◌≡◌, ℕ, ◌≤◌, List, [], ◌∷◌, ◌++◌, length, take, refl, ap, ◌∙◌, arith}
use Rattle.std.proofs.Math.Seq.{take-length}
use Rattle.std.proofs.lemmas.List.{length-take}
use Rattle.op_model.specs.declared.op.Op.{Op}
use Rattle.op_model.specs.Records.{stream_length}
use Rattle.op_pieces.specs.Pieces.{Run, ops_of, single}
use Rattle.change_codec.specs.declared.format.Format.{Format}
use Rattle.change_codec.specs.Formats.{IsOf}
use Rattle.change_codec.specs.Record.{BeginsWithOp}
use Rattle.change_codec.proofs.Lengths.{length_spelled}
use Rattle.op_list.specs.Held.{IsRecord}
use Rattle.piece_codec.specs.Formats.{IsPieceOf}
use Rattle.piece_codec.specs.Record.{BeginsWithPiece}
use Rattle.piece_codec.proofs.StreamLaws.{begins_some}
use Rattle.stream_list.specs.Fronts.{PutsFront}

-- a single operation is put
pub single_put : (f : Format) (bytes : List ℕ) (n : ℕ) (op : Op) (before after : List Op) → IsOf f op → BeginsWithOp bytes op n → after ≡ before ++ op ∷ []
    → PutsFront f bytes (record { len = n; count = 1; records = n }) before after
single_put f bytes n op before after of_format begins put = record {
  begins = record {
    piece = single op;
    of_format = record { runs = λ none. refl; tokens = of_format };
    begins = record { whole = begins.whole; spelled_so = begins.spelled_so; fits = record { first = begins.fits; others = tt; piece = refl } };
    counted = refl;
    measured = omega (arith, ap length begins.spelled_so, length-take n bytes, length_spelled op, begins.whole);
    within = omega arith;
  };
  put = put;
}

-- a run is
pub run_put : (f : Format) (bytes : List ℕ) (p : Run) (n count records : ℕ) (before after : List Op) → IsPieceOf f p → BeginsWithPiece bytes p n
    → count ≡ length (ops_of p) → records ≡ stream_length (ops_of p) → records ≤ 125696 → after ≡ before ++ ops_of p
    → PutsFront f bytes (record { len = n; count = count; records = records }) before after
run_put f bytes p n count records before after of_format begins counted measured few put = record {
  begins = record {
    piece = p;
    of_format = of_format;
    begins = begins;
    counted = counted;
    measured = measured;
    within = omega (arith, begins_some bytes p n begins);
  };
  put = put;
}

-- the bytes of a record by themselves are the record
pub whole_record : (bytes record_bytes : List ℕ) (n : ℕ) (op : Op) → BeginsWithOp bytes op n → record_bytes ≡ take n bytes → IsRecord record_bytes op
whole_record bytes record_bytes n op begins is = record {
  whole = omega arith;
  spelled_so = take-length record_bytes ∙ is ∙ begins.spelled_so;
  fits = begins.fits;
}
