-- How long the spelling of a run is.
use Rattle.std.proofs.Common.{◌≡◌, ℕ, ◌+◌, ◌*◌, ◌<◌, ◌≤◌, Bool, true, false, cond, Option, Some, None, List, [], ◌∷◌, ◌++◌, length, drop, get_or, refl, sym}
use Rattle.std.proofs.Common.{ap, ◌∙◌, arith}
use Rattle.std.proofs.lemmas.List.{drop_more, length-append, length-drop, nil_from_length}
use Rattle.std.specs.Prelude.{is_some}
use Rattle.std.specs.Int.{w16, w32}
use Rattle.op_ids.specs.Id.{Id}
use Rattle.op_model.specs.Records.{origin_length, token_length}
use Rattle.op_model.specs.declared.op.Op.{Op}
use Rattle.op_pieces.specs.Cutting.{value_of}
use Rattle.change_codec.specs.Spelling.{number_bytes, id_bytes, deps_bytes, token_bytes, origin_bytes}
use Rattle.change_codec.proofs.Lengths.{length-bytes16, length-bytes32, length-id, length-deps, length-token, length-origin}
use Rattle.piece_codec.specs.Spelling.{origin_of, scalars_bytes, text_bytes, run_fields, run_bytes}

pub length-scalars : (vs : List ℕ) → length (scalars_bytes vs) ≡ 4 * length vs
unfolding scalars_bytes
length-scalars [] = refl
length-scalars (v ∷ vs) = omega (arith, length-append (number_bytes w32 v) (scalars_bytes vs), length-bytes32 v, length-scalars vs)

pub length-text : (vs : List ℕ) → length (text_bytes vs) ≡ 2 + 4 * length vs
unfolding text_bytes
length-text vs = omega (arith, length-append (number_bytes w16 (length vs)) (scalars_bytes vs), length-bytes16 (length vs), length-scalars vs)

pub length-fields : (op : Op) (others : List ℕ) → length (run_fields op others) ≡ 35 + 24 * length op.deps + token_length op.token + origin_length (origin_of op.body) + 4 * length others
unfolding run_fields
length-fields op others =
    let origin = origin_bytes (origin_of op.body) in
    let text = text_bytes (value_of op.body ∷ others) in
    omega (
      arith,
      length-append (number_bytes w32 op.doc) (id_bytes op.id ++ (deps_bytes op.deps ++ (token_bytes op.token ++ (origin ++ text)))),
      length-append (id_bytes op.id) (deps_bytes op.deps ++ (token_bytes op.token ++ (origin ++ text))),
      length-append (deps_bytes op.deps) (token_bytes op.token ++ (origin ++ text)),
      length-append (token_bytes op.token) (origin ++ text),
      length-append origin text,
      length-bytes32 op.doc,
      length-id op.id,
      length-deps op.deps,
      length-token op.token,
      length-origin (origin_of op.body),
      length-text (value_of op.body ∷ others),
    )

pub length-run : (op : Op) (others : List ℕ) → length (run_bytes op others) ≡ 36 + 24 * length op.deps + token_length op.token + origin_length (origin_of op.body) + 4 * length others
unfolding run_bytes
length-run op others = omega (arith, length-fields op others)

-- the first of the characters that are left
pub scalars_from : (vs : List ℕ) (i v : ℕ) → i < length vs → v ≡ get_or vs i v → scalars_bytes (drop i vs) ≡ number_bytes w32 v ++ scalars_bytes (drop (i + 1) vs)
unfolding scalars_bytes
scalars_from vs i v lt is =
    ap scalars_bytes (drop_more vs i v lt) ∙ ap (λ (x : ℕ). number_bytes w32 x ++ scalars_bytes (drop (i + 1) vs)) (sym is)

-- and its length
pub length-scalars_from : (vs : List ℕ) (i v : ℕ) → i < length vs → v ≡ get_or vs i v → length (scalars_bytes (drop i vs)) ≡ 4 + length (scalars_bytes (drop (i + 1) vs))
length-scalars_from vs i v lt is =
    let front = ap (λ (x : List ℕ). length x) (scalars_from vs i v lt is) in
    omega (arith, front, length-append (number_bytes w32 v) (scalars_bytes (drop (i + 1) vs)), length-bytes32 v)

-- behind the last one there are none
pub no_scalars : (vs : List ℕ) (i : ℕ) → length vs ≤ i → scalars_bytes (drop i vs) ≡ []
unfolding scalars_bytes
no_scalars vs i le =
    let none : drop i vs ≡ [] = nil_from_length (drop i vs) (omega (arith, length-drop i vs)) in
    ap scalars_bytes none

origin_is : (origin : Option Id) → origin_length origin ≡ cond (is_some origin) 25 1
origin_is None = refl
origin_is (Some id) = refl

token_is : (token : Option ℕ) → token_length token ≡ cond (is_some token) 16 0
token_is None = refl
token_is (Some token) = refl

-- the length as it is worked out
pub run_length : (op : Op) (vs : List ℕ) (head token place others : ℕ) (has_token has_origin : Bool) → head ≡ 34 + 24 * length op.deps
    → has_token ≡ is_some op.token → token ≡ cond has_token 16 0 → has_origin ≡ is_some (origin_of op.body) → place ≡ cond has_origin 25 1
    → length vs ≡ others → head + token + place + 2 + 4 * others ≡ length (run_bytes op vs)
run_length op vs head token place others has_token has_origin h t1 t2 o1 o2 len =
    let t : token ≡ token_length op.token = t2 ∙ ap (λ (b : Bool). cond b 16 0) t1 ∙ sym (token_is op.token) in
    let o : place ≡ origin_length (origin_of op.body) = o2 ∙ ap (λ (b : Bool). cond b 25 1) o1 ∙ sym (origin_is (origin_of op.body)) in
    omega (arith, length-run op vs, h, t, o, len)

pub few_bytes : (head token place others : ℕ) (has_token has_origin : Bool) (deps : ℕ) → deps ≤ 16 → head ≡ 34 + 24 * deps → token ≡ cond has_token 16 0 → place ≡ cond has_origin 25 1
    → others < 256 → head + token + place + 2 + 4 * others ≤ 1481
few_bytes head token place others true true deps few h t o lt = omega arith
few_bytes head token place others true false deps few h t o lt = omega arith
few_bytes head token place others false true deps few h t o lt = omega arith
few_bytes head token place others false false deps few h t o lt = omega arith
