-- The record of a piece is no longer than those of its operations.
use Rattle.std.proofs.Common.{◌≡◌, ℕ, ◌+◌, ◌*◌, ◌<◌, ◌≤◌, true, List, [], ◌∷◌, length, sym, ◌∙◌, arith}
use Rattle.std.proofs.lemmas.Bool.{and_parts}
use Rattle.std.proofs.lemmas.List.{length-append}
use Rattle.std.specs.Int.{w32}
use Rattle.op_model.specs.Causality.{is_insert}
use Rattle.op_model.specs.Records.{origin_length, token_length, body_length, record_length, stream_length}
use Rattle.op_model.specs.declared.op.Op.{Op}
use Rattle.op_model.specs.declared.op.Body.{Body}
use Rattle.op_model.specs.declared.op.Body.TheVariants.{Insert, Remove, AddMark, RemoveMark}
use Rattle.op_pieces.specs.Pieces.{Run, next_typed, typed_behind, ops_of, fits_behind, is_piece}
use Rattle.change_codec.specs.Spelling.{number_bytes}
use Rattle.change_codec.proofs.Lengths.{length-bytes32, length_spelled}
use Rattle.piece_codec.specs.Spelling.{origin_of, run_bytes, spelled_run, spelled_with, spelled_piece}
use Rattle.piece_codec.proofs.Lengths.{length-run}

pub length-spelled_run : (op : Op) (vs : List ℕ) → length (spelled_run op vs) ≡ 40 + 24 * length op.deps + token_length op.token + origin_length (origin_of op.body) + 4 * length vs
unfolding spelled_run
length-spelled_run op vs = omega (arith, length-append (number_bytes w32 (length (run_bytes op vs))) (run_bytes op vs), length-bytes32 (length (run_bytes op vs)), length-run op vs)

-- each operation behind the first takes more than its character
typed_length : (op : Op) (vs : List ℕ) → 6 * length vs ≤ stream_length (typed_behind op vs)
typed_length op [] = omega arith
typed_length op (v ∷ vs) = omega (arith, typed_length (next_typed op v) vs)

pub insert_length : (body : Body) → is_insert body ≡ true → body_length body ≡ origin_length (origin_of body) + 4
insert_length (Insert origin value) is = omega arith
insert_length (Remove target) is = absurd (let never : ⊥ = cc in never)
insert_length (AddMark mark from to) is = absurd (let never : ⊥ = cc in never)
insert_length (RemoveMark mark from to) is = absurd (let never : ⊥ = cc in never)

pub piece_no_longer : (p : Run) → is_piece p ≡ true → length (spelled_piece p) ≤ stream_length (ops_of p)
piece_no_longer p piece = by_others p.first p.others piece
  where
    by_others : (op : Op) (vs : List ℕ) → fits_behind op vs ≡ true → length (spelled_with op vs) ≤ record_length op + stream_length (typed_behind op vs)
    by_others op [] piece = omega (arith, length_spelled op)
    by_others op (v ∷ vs) piece =
        let inserts = (and_parts (is_insert op.body) _ piece).0 in
        omega (arith, length-spelled_run op (v ∷ vs), insert_length op.body inserts, typed_length op (v ∷ vs))

-- ---- how long the record of a piece is

pub single_long : (op : Op) (vs : List ℕ) (n : ℕ) → length vs ≡ 0 → n ≡ record_length op → n ≡ length (spelled_with op vs)
single_long op [] n none long = long ∙ sym (length_spelled op)
single_long op (v ∷ vs) n none long = absurd (omega arith)

pub run_long : (op : Op) (vs : List ℕ) (n : ℕ) → 0 < length vs → n ≡ length (run_bytes op vs) → 4 + n ≡ length (spelled_with op vs)
run_long op [] n some long = absurd (omega arith)
run_long op (v ∷ vs) n some long = omega (arith, long, length-run op (v ∷ vs), length-spelled_run op (v ∷ vs))

-- that of a run, by that of its first operation
pub run_has_length : (p : Run) → is_piece p ≡ true → 0 < length p.others
    → length (spelled_piece p) ≡ record_length p.first + 2 + 4 * length p.others
run_has_length p piece some = by_others p.first p.others piece some
  where
    by_others : (op : Op) (vs : List ℕ) → fits_behind op vs ≡ true → 0 < length vs
        → length (spelled_with op vs) ≡ record_length op + 2 + 4 * length vs
    by_others op [] piece some = absurd (omega arith)
    by_others op (v ∷ vs) piece some =
        let inserts = (and_parts (is_insert op.body) _ piece).0 in
        omega (arith, length-spelled_run op (v ∷ vs), insert_length op.body inserts)
