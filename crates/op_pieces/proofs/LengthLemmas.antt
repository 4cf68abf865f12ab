-- How many bytes the records of a piece's operations take.
use Rattle.std.proofs.Common.{◌≡◌, ℕ, ◌+◌, ◌*◌, ◌<◌, Bool, true, List, [], ◌∷◌, length, arith, refl, ap, ◌∙◌}
use Rattle.std.specs.Prelude.{◌==◌, if◌then◌else◌, is_some, Option, Some, None}
use Rattle.std.proofs.lemmas.Bool.Decides.{nat_tests}
use Rattle.op_ids.specs.Clock.{count_of, advanced, is_clock}
use Rattle.op_ids.proofs.ClockLemmas.{advanced_as_set, is_clock_parts, length-with_count}
use Rattle.op_model.specs.declared.op.Op.{Op}
use Rattle.op_model.specs.Records.{head_length, token_length, record_length, stream_length}
use Rattle.op_pieces.specs.Pieces.{next_typed, typed_behind, fits_behind}
use Rattle.op_pieces.proofs.UnrolledLemmas.{room_parts}

-- a replica that is counted takes no further place
again : (es : List (ℕ × ℕ)) (replica : ℕ) → length (advanced (advanced es replica) replica) ≡ length (advanced es replica)
again [] replica = grind (arith, nat_tests)
again (e ∷ es) replica =
    let rest = again es replica in
    grind (arith, nat_tests)

-- one that isn't takes one more
pub advanced_length : (es : List (ℕ × ℕ)) (replica : ℕ) → is_clock es ≡ true → length (advanced es replica) ≡ length es + (if count_of es replica == 0 then 1 else 0)
advanced_length es replica valid =
    ap length (advanced_as_set es replica valid) ∙ length-with_count es 0 replica (count_of es replica + 1) (is_clock_parts es valid).0

-- each character more takes as many bytes
pub typed_length : (op : Op) (vs : List ℕ) (n : ℕ) → ((v : ℕ) → n ≡ record_length (next_typed op v)) → stream_length (typed_behind op vs) ≡ length vs * n
typed_length op [] n each = omega arith
typed_length op (v ∷ vs) n each =
    let rest = typed_length (next_typed op v) vs n (λ w. each w ∙ next_is op v w) in
    let first = each v in
    grind arith
  where
    next_is : (op : Op) (v w : ℕ) → record_length (next_typed op w) ≡ record_length (next_typed (next_typed op v) w)
    next_is op v w = let same = again op.deps op.id.replica in omega arith

-- a piece has at most 255 others
pub few_others : (op : Op) (vs : List ℕ) → fits_behind op vs ≡ true → length vs < 256
few_others op [] fits = omega arith
few_others op (v ∷ vs) fits = (room_parts op (length (v ∷ vs)) fits).few

-- a token's bytes, known by whether there is one
token_is : (token : Option ℕ) (has : Bool) → has ≡ is_some token → (if has then 16 else 0) ≡ token_length token
token_is None has is = rw is refl
token_is (Some token) has is = rw is refl

-- the parts of the next record
pub next_is_long : (op : Op) (head token insert deps : ℕ) (has : Bool) → head ≡ head_length deps → deps ≡ length (advanced op.deps op.id.replica)
    → has ≡ is_some op.token → token ≡ (if has then 16 else 0) → insert ≡ 29 → (v : ℕ) → head + token + insert ≡ record_length (next_typed op v)
next_is_long op head token insert deps has head_is deps_is has_is token_long insert_is v =
    let token_same = token_is op.token has has_is in
    omega arith
