-- How many bytes of single records the record of a piece stands for.
use Rattle.std.proofs.Common.{◌≡◌, ℕ, ◌+◌, ◌-◌, ◌*◌, ◌≤◌, Bool, true, false, inl, inr, List, [], ◌∷◌, length, arith, Option, Some, None}
use Rattle.std.specs.Prelude.{◌==◌, if◌then◌else◌}
use Rattle.std.proofs.Math.Nat.{mul-le-mul_right, mul-le-mul_left}
use Rattle.std.proofs.lemmas.Bool.{cases_lt}
use Rattle.std.proofs.lemmas.Bool.Decides.{nat_tests}
use Rattle.op_ids.specs.Id.{Id}
use Rattle.op_ids.specs.Clock.{count_of, advanced, is_clock}
use Rattle.op_ids.proofs.RoomLemmas.{first_of_more}
use Rattle.op_model.specs.Records.{token_length, origin_length, record_length, stream_length}
use Rattle.op_model.specs.declared.op.Op.{Op}
use Rattle.op_pieces.specs.Pieces.{Run, typed_behind, ops_of, fits_behind}
use Rattle.op_pieces.proofs.LengthLemmas.{advanced_length, typed_length}
use Rattle.op_pieces.proofs.UnrolledLemmas.{room_parts}
use Rattle.change_codec.specs.Fits.{IsOperation}
use Rattle.change_codec.proofs.Lengths.{length_spelled}
use Rattle.piece_codec.specs.Fits.{IsWhole}
use Rattle.piece_codec.specs.Spelling.{origin_of, spelled_with, spelled_piece}
use Rattle.piece_codec.proofs.LengthLaws.{insert_length, length-spelled_run}

sixteen : (es : List (ℕ × ℕ)) → is_clock es ≡ true → length es ≤ 16
sixteen es clock = grind (arith, nat_tests)

one_more : (b : Bool) → (if b then 1 else 0) ≤ 1
one_more true = omega arith
one_more false = omega arith

short_token : (token : Option ℕ) → token_length token ≤ 16
short_token None = omega arith
short_token (Some token) = omega arith

some_origin : (origin : Option Id) → 1 ≤ origin_length origin
some_origin None = omega arith
some_origin (Some id) = omega arith

-- later records of up to 332 bytes, and of 332 and some more
few_bytes : (first later n : ℕ) → later ≤ 332 → first + n * later ≤ 83 * (first + 2 + 4 * n)
few_bytes first later n few = let all = mul-le-mul_left n few in omega (arith, all)

more_bytes : (first k n : ℕ) → 332 + k ≤ first + 48 → k ≤ 131 → n ≤ 255 → first + n * (332 + k) ≤ 83 * (first + 2 + 4 * n)
more_bytes first k n near most few = let all = mul-le-mul_right k few in omega (arith, all)

enough : (first later n : ℕ) → later ≤ first + 48 → later ≤ 463 → n ≤ 255 → first + n * later ≤ 83 * (first + 2 + 4 * n)
enough first later n near most few = elim (cases_lt later 333) [
  | inl less ↦ few_bytes first later n (omega (arith, less))
  | inr more ↦
      let is : 332 + (later - 332) ≡ later = omega (arith, more) in
      let all = more_bytes first (later - 332) n (omega (arith, near, is)) (omega (arith, most, is)) few in
      rw is at all
]

-- the record of a piece stands for at most 83 times its bytes
pub at_most_83 : (p : Run) → IsWhole p → stream_length (ops_of p) ≤ 83 * length (spelled_piece p)
at_most_83 p whole = by_others p.first p.others whole.first whole.piece
  where
    by_others : (op : Op) (vs : List ℕ) → IsOperation op → fits_behind op vs ≡ true → record_length op + stream_length (typed_behind op vs) ≤ 83 * length (spelled_with op vs)
    by_others op [] fits piece = omega (arith, length_spelled op)
    by_others op (v ∷ vs) fits piece =
        let room = room_parts op (length (v ∷ vs)) piece in
        let few = room.few in
        let clock = first_of_more op.deps op.id.replica (length vs) fits.deps fits.id.not_nil room.deps in
        let later = 63 + 24 * length (advanced op.deps op.id.replica) + token_length op.token in
        let many = typed_length op (v ∷ vs) later (λ w. omega arith) in
        let deps = advanced_length op.deps op.id.replica fits.deps in
        let content = insert_length op.body room.inserts in
        let long = length-spelled_run op (v ∷ vs) in
        let near : later ≤ record_length op + 48 = omega (arith, deps, one_more (count_of op.deps op.id.replica == 0), content, some_origin (origin_of op.body)) in
        let most : later ≤ 463 = omega (arith, sixteen (advanced op.deps op.id.replica) clock, short_token op.token) in
        let all = enough (record_length op) later (length (v ∷ vs)) near most (omega (arith, few)) in
        omega (arith, all, many, long, content)
