-- Bytes that are no whole record yet.
use Rattle.std.proofs.Common.{◌≡◌, ℕ, Bool, List, get_or, Option, Some, None, Result, Ok, Err, refl}
use Rattle.op_model.specs.declared.op.Op.{Op}
use Rattle.change_codec.specs.declared.codec_error.CodecError.{CodecError}
use Rattle.change_codec.specs.declared.format.Format.{Format}
use Rattle.change_codec.specs.Reading.{◌>>=◌}
use Rattle.change_codec.specs.Record.{taken, IsPartial}
use Rattle.change_codec.proofs.Framing.{partial_framed, framed_partial}
use Rattle.change_codec.proofs.RecordLaws.{partial_taken, taken_partial}
use Rattle.piece_codec.specs.Formats.{run_named}
use Rattle.piece_codec.specs.Record.{run_body_at, as_piece, taken_as, taken_piece}

pub partial_piece : (f : Format) (bytes : List ℕ) → IsPartial f bytes → taken_piece f bytes ≡ Ok None
unfolding taken_piece
partial_piece f bytes partial = by_kind (run_named f (get_or bytes 4 0))
  where
    by_kind : (k : Option Bool) → taken_as k f bytes ≡ Ok None
    by_kind None = rw (partial_taken f bytes partial) refl
    by_kind (Some has_token) = partial_framed (run_body_at has_token) f bytes partial

-- an operation that is a piece isn't nothing
none_found : (r : Result (Option (Op × ℕ)) CodecError) → (r >>= λ found. Ok (as_piece found)) ≡ Ok None → r ≡ Ok None
none_found (Ok None) e = refl
none_found (Ok (Some x)) e = absurd cc
none_found (Err d) e = absurd cc

pub piece_partial : (f : Format) (bytes : List ℕ) → taken_piece f bytes ≡ Ok None → IsPartial f bytes
unfolding taken_piece
piece_partial f bytes e = by_kind (run_named f (get_or bytes 4 0)) e
  where
    by_kind : (k : Option Bool) → taken_as k f bytes ≡ Ok None → IsPartial f bytes
    by_kind None e = taken_partial f bytes (none_found (taken f bytes) e)
    by_kind (Some has_token) e = framed_partial (run_body_at has_token) f bytes e
