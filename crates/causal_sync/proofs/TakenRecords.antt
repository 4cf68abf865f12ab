-- A record that the codec refuses.
use Rattle.std.proofs.Common.{◌≡◌, ℕ, List, Option, Some, Result, Ok, Err}
use Rattle.op_pieces.specs.Pieces.{Run}
use Rattle.change_codec.specs.declared.codec_error.CodecError.{CodecError}
use Rattle.change_codec.specs.declared.format.Format.TheVariants.{Third}
use Rattle.change_codec.specs.Record.{fault_of}
use Rattle.piece_codec.specs.Record.{taken_piece, first_fault}
use Rattle.causal_sync.specs.declared.link_error.LinkError.TheVariants.{Record}
use Rattle.causal_sync.specs.Reading.{behind, record_at}

-- its first fault is the frame's
pub refused : (bytes : List ℕ) (fault : CodecError) → first_fault Third bytes ≡ Some fault → record_at bytes ≡ Err (Record fault)
unfolding first_fault record_at
refused bytes fault first = refused_so (taken_piece Third bytes) first
  where
    refused_so : (r : Result (Option (Run × ℕ)) CodecError) → fault_of r ≡ Some fault → behind bytes r ≡ Err (Record fault)
    refused_so (Ok x) e = absurd cc
    refused_so (Err d) e = cc
