-- The record of a run, made of that of its first operation.
use Rattle.std.proofs.Common.{◌≡◌, ℕ, ◌+◌, ◌-◌, ◌*◌, ◌≤◌, Bool, true, false, List, [], ◌∷◌, ◌++◌, length, take, drop, get_or, Option}
use Rattle.std.proofs.Common.{ap, refl, sym, ◌∙◌, arith, append_assoc}
use Rattle.std.specs.Prelude.{◌==◌, is_some, slice_index, slice_range}
use Rattle.std.specs.Global.{Vec}
use Rattle.std.proofs.lemmas.List.{length-append, length-drop, length-take, drop_at, take_at}
use Rattle.change_codec.specs.Writing.{Appends}
use Rattle.std.proofs.Math.Seq.{get_or-append_seam}
use Rattle.std.specs.Int.{w32}
use Rattle.op_ids.specs.Id.{Id}
use Rattle.op_model.specs.Causality.{is_insert}
use Rattle.op_model.specs.declared.op.Op.{Op}
use Rattle.op_model.specs.declared.op.Body.{Body}
use Rattle.op_model.specs.declared.op.Body.TheVariants.{Insert, Remove, AddMark, RemoveMark}
use Rattle.op_pieces.specs.Cutting.{value_of}
use Rattle.change_codec.specs.Spelling.{number_bytes, id_bytes, deps_bytes, token_bytes, origin_bytes, tagged, content_bytes, body_bytes, spelled}
use Rattle.change_codec.proofs.Lengths.{length-bytes32, length_spelled}
use Rattle.piece_codec.specs.Spelling.{origin_of, text_bytes, run_fields, run_bytes, spelled_run}
use Rattle.piece_codec.proofs.Lengths.{length-run}
use Rattle.piece_codec.proofs.LengthLaws.{insert_length}

-- what stands between the kind and the characters
fields : Op → List ℕ
fields op = number_bytes w32 op.doc ++ (id_bytes op.id ++ (deps_bytes op.deps ++ (token_bytes op.token ++ origin_bytes (origin_of op.body))))

five : (a b c d e rest : List ℕ) → a ++ (b ++ (c ++ (d ++ (e ++ rest)))) ≡ (a ++ (b ++ (c ++ (d ++ e)))) ++ rest
five a b c d e rest =
    sym (append_assoc a (b ++ (c ++ (d ++ e))) rest
    ∙ ap (λ r. a ++ r) (append_assoc b (c ++ (d ++ e)) rest ∙ ap (λ r. b ++ r) (append_assoc c (d ++ e) rest ∙ ap (λ r. c ++ r) (append_assoc d e rest))))

run_parts : (op : Op) (others : List ℕ) → run_bytes op others ≡ tagged (is_some op.token) 5 ∷ (fields op ++ text_bytes (value_of op.body ∷ others))
unfolding run_bytes run_fields fields
run_parts op others =
    ap (λ r. tagged (is_some op.token) 5 ∷ r)
    (five (number_bytes w32 op.doc) (id_bytes op.id) (deps_bytes op.deps) (token_bytes op.token) (origin_bytes (origin_of op.body)) (text_bytes (value_of op.body ∷ others)))

insert_parts : (op : Op) → is_insert op.body ≡ true → body_bytes op ≡ tagged (is_some op.token) 1 ∷ (fields op ++ number_bytes w32 (value_of op.body))
unfolding body_bytes content_bytes fields
insert_parts op inserts = by_body op.id op.doc op.token op.deps op.body inserts
  where
    by_body : (id : Id) (doc : ℕ) (token : Option ℕ) (deps : List (ℕ × ℕ)) (body : Body) → is_insert body ≡ true
        → body_bytes (record { id = id; doc = doc; token = token; deps = deps; body = body })
        ≡ tagged (is_some token) 1 ∷ (fields (record { id = id; doc = doc; token = token; deps = deps; body = body }) ++ number_bytes w32 (value_of body))
    by_body id doc token deps (Insert origin value) is =
        ap (λ r. tagged (is_some token) 1 ∷ r)
        (five (number_bytes w32 doc) (id_bytes id) (deps_bytes deps) (token_bytes token) (origin_bytes origin) (number_bytes w32 value))
    by_body id doc token deps (Remove target) is = absurd (let never : ⊥ = cc in never)
    by_body id doc token deps (AddMark mark from to) is = absurd (let never : ⊥ = cc in never)
    by_body id doc token deps (RemoveMark mark from to) is = absurd (let never : ⊥ = cc in never)

-- a record's parts, which stand at these places
record Parts (record_bytes : List ℕ) (kind : ℕ) (middle : List ℕ) : Type 0 where
  pub kind_at : slice_index record_bytes 4 ≡ kind
  pub middle_at : slice_range record_bytes 5 (length record_bytes - 4) ≡ middle

parts_at : (front middle back : List ℕ) (kind : ℕ) → length front ≡ 4 → length back ≡ 4 → Parts (front ++ kind ∷ (middle ++ back)) kind middle
parts_at front middle back kind four four' =
    let seam : get_or (front ++ kind ∷ (middle ++ back)) (length front) 0 ≡ kind = get_or-append_seam front kind (middle ++ back) 0 in
    let again : front ++ kind ∷ (middle ++ back) ≡ (front ++ kind ∷ []) ++ (middle ++ back) = sym (append_assoc front (kind ∷ []) (middle ++ back)) in
    let five_front : length (front ++ kind ∷ []) ≡ 5 = (let l = length-append front (kind ∷ []) in omega arith) in
    let behind : drop 5 (front ++ kind ∷ (middle ++ back)) ≡ middle ++ back = ap (drop 5) again ∙ drop_at (front ++ kind ∷ []) (middle ++ back) 5 five_front in
    let all = length-append front (kind ∷ (middle ++ back)) in
    let rest = length-append middle back in
    let count : length (front ++ kind ∷ (middle ++ back)) - 4 - 5 ≡ length middle = omega arith in
    record {
      kind_at = ap (λ n. get_or (front ++ kind ∷ (middle ++ back)) n 0) (sym four) ∙ seam;
      middle_at = ap (take (length (front ++ kind ∷ (middle ++ back)) - 4 - 5)) behind ∙ take_at middle back (length (front ++ kind ∷ (middle ++ back)) - 4 - 5) (sym count);
    }

insert_at : (op : Op) → is_insert op.body ≡ true → Parts (spelled op) (tagged (is_some op.token) 1) (fields op)
unfolding spelled
insert_at op inserts =
    let b = body_bytes op in
    rw (insert_parts op inserts)
    (parts_at (number_bytes w32 (length (tagged (is_some op.token) 1 ∷ (fields op ++ number_bytes w32 (value_of op.body))))) (fields op) (number_bytes w32 (value_of op.body)) (tagged (is_some op.token) 1)
    (length-bytes32 _) (length-bytes32 _))

-- one with a token is known by its kind
kind_tells : (has : Bool) → (tagged has 1 == 17) ≡ has
kind_tells true = refl
kind_tells false = refl

-- what is put is the record of the run
pub typed_is : (op : Op) (bytes middle others : List ℕ) (first kind length_of : ℕ) (has : Bool) → bytes ≡ spelled op → is_insert op.body ≡ true
    → first ≡ value_of op.body → has ≡ (slice_index bytes 4 == 17) → kind ≡ tagged has 5 → middle ≡ slice_range bytes 5 (length bytes - 4)
    → length_of ≡ length bytes - 2 + 4 * length others
    → number_bytes w32 length_of ++ (kind ∷ (middle ++ text_bytes (first ∷ others))) ≡ spelled_run op others
unfolding spelled_run
typed_is op bytes middle others first kind length_of has is inserts value has_is kind_is middle_is long =
    let at = insert_at op inserts in
    let token : has ≡ is_some op.token = has_is ∙ ap (λ r. slice_index r 4 == 17) is ∙ ap (λ k. k == 17) at.kind_at ∙ kind_tells (is_some op.token) in
    let kinds : kind ≡ tagged (is_some op.token) 5 = kind_is ∙ ap (λ t. tagged t 5) token in
    let middles : middle ≡ fields op = middle_is ∙ ap (λ r. slice_range r 5 (length r - 4)) is ∙ at.middle_at in
    let lengths : length_of ≡ length (run_bytes op others) = omega (
      arith,
      long,
      ap length is,
      length_spelled op,
      insert_length op.body inserts,
      length-run op others,
    ) in
    rw (lengths, kinds, middles, value) (ap (λ r. number_bytes w32 (length (run_bytes op others)) ++ r) (sym (run_parts op others)))

-- what stands between has fewer bytes
pub fields_length : (bytes : List ℕ) → 9 ≤ length bytes → length (slice_range bytes 5 (length bytes - 4)) ≡ length bytes - 9
fields_length bytes whole =
    omega (arith, whole, length-take (length bytes - 4 - 5) (drop 5 bytes), length-drop 5 bytes)

-- bytes put behind others that were put
pub appends_both : (old mid new : Vec ℕ) (a b all : List ℕ) → Appends old mid a → Appends mid new b → a ++ b ≡ all → Appends old new all
appends_both old mid new a b all first second is =
    let first_len = first.len in
    let second_len = second.len in
    record {
      items = second.items ∙ ap (λ front. front ++ b) first.items ∙ append_assoc old.items a b ∙ ap (λ r. old.items ++ r) is;
      len = omega (arith, first_len, second_len, length-append a b, ap length is);
      capacity = second.capacity ∙ first.capacity;
    }
