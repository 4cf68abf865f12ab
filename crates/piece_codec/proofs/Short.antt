-- How long the records of pieces are.
use Rattle.std.proofs.Common.{◌≡◌, ℕ, ◌<◌, ◌≤◌, true, List, [], ◌∷◌, length, arith}
use Rattle.std.specs.Int.{w32}
use Rattle.std.proofs.lemmas.List.{length-append}
use Rattle.op_model.specs.declared.op.Op.{Op}
use Rattle.op_pieces.specs.Pieces.{Run, fits_behind}
use Rattle.change_codec.specs.declared.format.Format.TheVariants.{Third}
use Rattle.change_codec.specs.Fits.{IsOperation}
use Rattle.change_codec.specs.Spelling.{number_bytes, body_bytes, spelled}
use Rattle.change_codec.proofs.Lengths.{length-bytes32}
use Rattle.change_codec.proofs.RecordLaws.{body_range, of_third}
use Rattle.piece_codec.specs.Fits.{IsWhole}
use Rattle.piece_codec.specs.Spelling.{run_bytes, spelled_run, spelled_with, spelled_piece}
use Rattle.piece_codec.proofs.KindLaws.{run_range}
use Rattle.piece_codec.proofs.RunLaws.{few_others}

-- the record of one operation
single_short : (op : Op) → IsOperation op → length (spelled op) ≤ 1511
unfolding spelled
single_short op fits =
    let head = number_bytes w32 (length (body_bytes op)) in
    omega (arith, length-append head (body_bytes op), length-bytes32 (length (body_bytes op)), (body_range Third op (of_third op) fits).1)

-- the record of a run
run_short : (op : Op) (vs : List ℕ) → IsOperation op → length vs < 256 → length (spelled_run op vs) ≤ 1511
unfolding spelled_run
run_short op vs fits few =
    let head = number_bytes w32 (length (run_bytes op vs)) in
    omega (arith, length-append head (run_bytes op vs), length-bytes32 (length (run_bytes op vs)), (run_range Third op vs fits.deps few).1)

pub piece_short : (p : Run) → IsWhole p → length (spelled_piece p) ≤ 1511
piece_short p whole = by_others p.first p.others whole.first whole.piece
  where
    by_others : (op : Op) (vs : List ℕ) → IsOperation op → fits_behind op vs ≡ true → length (spelled_with op vs) ≤ 1511
    by_others op [] fits room = single_short op fits
    by_others op (v ∷ vs) fits room = run_short op (v ∷ vs) fits (few_others op (length (v ∷ vs)) room)
