-- The fields of a run: what is read is spelled so, and what is spelled so is read.
use Rattle.std.proofs.Common.{◌≡◌, ℕ, zero, suc, ◌^◌, ◌-◌, ◌<◌, Bool, true, cond, eqb, List, [], ◌∷◌, ◌++◌}
use Rattle.std.proofs.Common.{length, Option, Ok, Err, refl, sym, ap, subst, ◌∙◌, append_assoc, arith}
use Rattle.std.specs.Prelude.{is_some, nat_le, nat_lt}
use Rattle.std.specs.Int.{w16, w32}
use Rattle.std.proofs.lemmas.Bool.{and_parts, eqb-true}
use Rattle.std.proofs.lemmas.Bool.Decides.{nat_tests}
use Rattle.std.proofs.lemmas.List.{append-nil, nil_from_length}
use lib.Utf8.{scalar_fits}
use Rattle.op_ids.specs.Id.{Id}
use Rattle.op_model.specs.Causality.{is_insert}
use Rattle.op_model.specs.declared.op.Op.{Op}
use Rattle.op_model.specs.declared.op.Body.{Body}
use Rattle.op_model.specs.declared.op.Body.TheVariants.{Insert, Remove, AddMark, RemoveMark}
use Rattle.op_pieces.specs.Pieces.{Run, has_room_behind, fits_behind, is_piece}
use Rattle.change_codec.specs.declared.codec_error.CodecError.TheVariants.{Length, Number}
use Rattle.change_codec.specs.Fits.{IsId, IsOrigin, IsToken, IsOperation}
use Rattle.change_codec.specs.Spelling.{number_bytes, id_bytes, deps_bytes, token_bytes, origin_bytes}
use Rattle.change_codec.specs.Reading.{◌>>=◌, number_at, id_at, deps_at, token_at, origin_at, scalar_at}
use Rattle.change_codec.proofs.Steps.{IsBytes, bind_ok, passed, ranged, ok_is, Takes, Takes-then}
use Rattle.change_codec.proofs.Numbers.{wide16, wide32, number_takes, number_again}
use Rattle.change_codec.proofs.IdLaws.{id_takes, id_again, deps_take, deps_again}
use Rattle.change_codec.proofs.ContentLaws.{origin_takes, origin_again, scalar_takes, scalar_again}
use Rattle.change_codec.proofs.TokenLaws.{token_takes, token_again}
use Rattle.piece_codec.specs.declared.fields.RunHead.{RunHead}
use Rattle.piece_codec.specs.declared.fields.RunTail.{RunTail}
use Rattle.piece_codec.specs.Fits.{AreScalars, IsWhole}
use Rattle.piece_codec.specs.Spelling.{scalars_bytes, text_bytes, run_fields}
use Rattle.piece_codec.specs.Reading.{run_head_at, run_tail_at, first_of, is_count, scalars_at, text_at, counted_at, run_at}

-- ---- characters

scalars_take : (n : ℕ) (bytes : List ℕ) (x : List ℕ × List ℕ) → IsBytes bytes → scalars_at n bytes ≡ Ok x → Takes bytes (scalars_bytes x.0) x.1 × AreScalars x.0 × (length x.0 ≡ n)
unfolding scalars_at scalars_bytes
scalars_take zero bytes x fits e =
    subst (λ (y : List ℕ × List ℕ). Takes bytes (scalars_bytes y.0) y.1 × AreScalars y.0 × (length y.0 ≡ 0)) (ok_is ([], bytes) x e) (record { parts = refl; rest_fits = fits }, tt, refl)
scalars_take (suc n) bytes x fits e =
    let a = bind_ok (scalar_at bytes) (λ first. scalars_at n first.1 >>= λ others. Ok (first.0 ∷ others.0, others.1)) x e in
    let b = bind_ok (scalars_at n a.0.1) (λ others. Ok (a.0.0 ∷ others.0, others.1)) x a.2 in
    let t0 = scalar_takes bytes a.0 fits a.1 in
    let t1 = scalars_take n a.0.1 b.0 t0.0.rest_fits b.1 in
    let both = Takes-then bytes (number_bytes w32 a.0.0) a.0.1 (scalars_bytes b.0.0) b.0.1 t0.0 t1.0 in
    subst (λ (y : List ℕ × List ℕ). Takes bytes (scalars_bytes y.0) y.1 × AreScalars y.0 × (length y.0 ≡ suc n)) (ok_is (a.0.0 ∷ b.0.0, b.0.1) x b.2) (both, (t0.1, t1.1), ap suc t1.2)

scalars_again : (vs rest : List ℕ) → AreScalars vs → scalars_at (length vs) (scalars_bytes vs ++ rest) ≡ Ok (vs, rest)
unfolding scalars_at scalars_bytes
scalars_again [] rest fits = refl
scalars_again (v ∷ vs) rest fits =
    ap (scalars_at (suc (length vs))) (append_assoc (number_bytes w32 v) (scalars_bytes vs) rest)
    ∙ rw (scalar_again v (scalars_bytes vs ++ rest) (scalar_fits v fits.0) fits.0, scalars_again vs rest fits.1) refl

text_takes : (n : ℕ) (bytes : List ℕ) (x : ℕ × List ℕ) → IsBytes bytes → text_at n bytes ≡ Ok x → (bytes ≡ scalars_bytes (x.0 ∷ x.1)) × AreScalars (x.0 ∷ x.1) × (length x.1 ≡ n)
unfolding text_at scalars_bytes
text_takes n bytes x fits e =
    let a = bind_ok (scalar_at bytes) (λ first. scalars_at n first.1 >>= λ rest. cond (eqb (length rest.1) 0) (Ok (first.0, rest.0)) (Err Length)) x e in
    let b = bind_ok (scalars_at n a.0.1) (λ rest. cond (eqb (length rest.1) 0) (Ok (a.0.0, rest.0)) (Err Length)) x a.2 in
    let p = passed (eqb (length b.0.1) 0) Length (a.0.0, b.0.0) x b.2 in
    let t0 = scalar_takes bytes a.0 fits a.1 in
    let t1 = scalars_take n a.0.1 b.0 t0.0.rest_fits b.1 in
    let nothing : b.0.1 ≡ [] = nil_from_length b.0.1 (eqb-true _ _ p.0) in
    let both = Takes-then bytes (number_bytes w32 a.0.0) a.0.1 (scalars_bytes b.0.0) b.0.1 t0.0 t1.0 in
    let all = number_bytes w32 a.0.0 ++ scalars_bytes b.0.0 in
    let whole : bytes ≡ all = both.parts ∙ ap (λ (r : List ℕ). all ++ r) nothing ∙ append-nil all in
    subst (λ (y : ℕ × List ℕ). (bytes ≡ scalars_bytes (y.0 ∷ y.1)) × AreScalars (y.0 ∷ y.1) × (length y.1 ≡ n)) p.1 (whole, (t0.1, t1.1), t1.2)

text_again : (v : ℕ) (vs : List ℕ) → AreScalars (v ∷ vs) → text_at (length vs) (scalars_bytes (v ∷ vs)) ≡ Ok (v, vs)
unfolding text_at scalars_bytes
text_again v vs fits =
    let others : scalars_at (length vs) (scalars_bytes vs) ≡ Ok (vs, []) = ap (scalars_at (length vs)) (sym (append-nil (scalars_bytes vs))) ∙ scalars_again vs [] fits.1 in
    rw (scalar_again v (scalars_bytes vs) (scalar_fits v fits.0) fits.0, others) refl

-- ---- head and tail

-- what was read before the deps
record FrontHead (bytes : List ℕ) (head : RunHead) (rest : List ℕ) : Type 0 where
  parts : bytes ≡ number_bytes w32 head.doc ++ (id_bytes head.id ++ rest)
  rest_fits : IsBytes rest
  doc : head.doc < 2 ^ 32
  id : IsId head.id

head_takes : (bytes : List ℕ) (x : RunHead × List ℕ) → IsBytes bytes → run_head_at bytes ≡ Ok x → FrontHead bytes x.0 x.1
unfolding run_head_at
head_takes bytes x fits e =
    let a = bind_ok (number_at w32 bytes) (λ doc. id_at doc.1 >>= λ id. Ok (record { doc = doc.0; id = id.0 }, id.1)) x e in
    let b = bind_ok (id_at a.0.1) (λ id. Ok (record { doc = a.0.0; id = id.0 }, id.1)) x a.2 in
    let t0 = number_takes w32 (2 ^ 32) wide32 bytes a.0 fits a.1 in
    let t1 = id_takes a.0.1 b.0 t0.0.rest_fits b.1 in
    let made : RunHead × List ℕ = (record { doc = a.0.0; id = b.0.0 }, b.0.1) in
    subst (λ (y : RunHead × List ℕ). FrontHead bytes y.0 y.1) (ok_is made x b.2)
    (record {
      parts = t0.0.parts ∙ ap (λ (r : List ℕ). number_bytes w32 a.0.0 ++ r) t1.0.parts;
      rest_fits = t1.0.rest_fits;
      doc = t0.1;
      id = t1.1;
    })

-- what was read between the deps and the characters
record FrontTail (bytes : List ℕ) (has_token : Bool) (tail : RunTail) (rest : List ℕ) : Type 0 where
  parts : bytes ≡ token_bytes tail.token ++ (origin_bytes tail.origin ++ (number_bytes w16 tail.count ++ rest))
  rest_fits : IsBytes rest
  token : IsToken tail.token
  has : has_token ≡ is_some tail.token
  origin : IsOrigin tail.origin

tail_takes : (has_token : Bool) (bytes : List ℕ) (x : RunTail × List ℕ) → IsBytes bytes → run_tail_at has_token bytes ≡ Ok x → FrontTail bytes has_token x.0 x.1
unfolding run_tail_at
tail_takes has_token bytes x fits e =
    let a = bind_ok (token_at has_token bytes) (λ token. origin_at token.1 >>= λ origin. number_at w16 origin.1 >>= λ count. Ok (record { token = token.0; origin = origin.0; count = count.0 }, count.1)) x e in
    let b = bind_ok (origin_at a.0.1) (λ origin. number_at w16 origin.1 >>= λ count. Ok (record { token = a.0.0; origin = origin.0; count = count.0 }, count.1)) x a.2 in
    let c = bind_ok (number_at w16 b.0.1) (λ count. Ok (record { token = a.0.0; origin = b.0.0; count = count.0 }, count.1)) x b.2 in
    let t0 = token_takes has_token bytes a.0 fits a.1 in
    let t1 = origin_takes a.0.1 b.0 t0.taken.rest_fits b.1 in
    let t2 = number_takes w16 (2 ^ 16) wide16 b.0.1 c.0 t1.0.rest_fits c.1 in
    let made : RunTail × List ℕ = (record { token = a.0.0; origin = b.0.0; count = c.0.0 }, c.0.1) in
    subst (λ (y : RunTail × List ℕ). FrontTail bytes has_token y.0 y.1) (ok_is made x c.2)
    (record {
      parts = t0.taken.parts ∙ ap (λ (r : List ℕ). token_bytes a.0.0 ++ r) (t1.0.parts ∙ ap (λ (r : List ℕ). origin_bytes b.0.0 ++ r) t2.0.parts);
      rest_fits = t2.0.rest_fits;
      token = t0.fits;
      has = t0.has;
      origin = t1.1;
    })

-- ---- the whole

-- room for the characters makes a piece
room_fits : (op : Op) (vs : List ℕ) (n : ℕ) → length vs ≡ n → 0 < n → has_room_behind op n ≡ true → fits_behind op vs ≡ true
room_fits op [] n len some room = absurd (omega arith)
room_fits op (v ∷ vs) n len some room = ap (has_room_behind op) len ∙ room

-- the number of characters is one more than those behind the first
at_least_two : (n : ℕ) → nat_le 2 n ≡ true → 1 < n
at_least_two n le = grind (arith, nat_tests)

-- characters that there is room for make a piece
pub counted_piece : (head : RunHead) (deps : List (ℕ × ℕ)) (tail : RunTail) (bytes : List ℕ) (v : ℕ) (vs : List ℕ) → IsBytes bytes → is_count (first_of head deps tail 0) tail.count ≡ true
    → text_at (tail.count - 1) bytes ≡ Ok (v, vs) → is_piece (record { first = first_of head deps tail v; others = vs }) ≡ true
counted_piece head deps tail bytes v vs fits test read =
    let counted = and_parts (nat_le 2 tail.count) (has_room_behind (first_of head deps tail 0) (tail.count - 1)) test in
    let two = at_least_two tail.count counted.0 in
    let t = text_takes (tail.count - 1) bytes (v, vs) fits read in
    room_fits (first_of head deps tail v) vs (tail.count - 1) t.2 (omega (arith, two)) counted.1

-- what was read as a run
pub record ReadRun (bytes : List ℕ) (has_token : Bool) (p : Run) : Type 0 where
  pub parts : bytes ≡ run_fields p.first p.others
  pub fits : IsWhole p
  pub has : has_token ≡ is_some p.first.token
  pub some : 0 < length p.others

pub run_takes : (has_token : Bool) (bytes : List ℕ) (p : Run) → IsBytes bytes → run_at has_token bytes ≡ Ok p → ReadRun bytes has_token p
unfolding run_at run_fields text_bytes
run_takes has_token bytes p fits e =
    let a = bind_ok (run_head_at bytes) (λ head. deps_at head.1 >>= λ deps. run_tail_at has_token deps.1 >>= λ tail. counted_at (first_of head.0 deps.0 tail.0) tail.0.count tail.1) p e in
    let b = bind_ok (deps_at a.0.1) (λ deps. run_tail_at has_token deps.1 >>= λ tail. counted_at (first_of a.0.0 deps.0 tail.0) tail.0.count tail.1) p a.2 in
    let c = bind_ok (run_tail_at has_token b.0.1) (λ tail. counted_at (first_of a.0.0 b.0.0 tail.0) tail.0.count tail.1) p b.2 in
    let head = a.0.0 in
    let tail = c.0.0 in
    let first = first_of head b.0.0 tail in
    let d = ranged (is_count (first 0) tail.count) (text_at (tail.count - 1) c.0.1 >>= λ text. Ok (record { first = first text.0; others = text.1 })) Number p c.2 in
    let f = bind_ok (text_at (tail.count - 1) c.0.1) (λ text. Ok (record { first = first text.0; others = text.1 })) p d.1 in
    let counted = and_parts (nat_le 2 tail.count) (has_room_behind (first 0) (tail.count - 1)) d.0 in
    let two = at_least_two tail.count counted.0 in
    let t0 = head_takes bytes a.0 fits a.1 in
    let t1 = deps_take a.0.1 b.0 t0.rest_fits b.1 in
    let t2 = tail_takes has_token b.0.1 c.0 t1.0.rest_fits c.1 in
    let t3 = text_takes (tail.count - 1) c.0.1 f.0 t2.rest_fits f.1 in
    let v = f.0.0 in
    let vs = f.0.1 in
    let count : tail.count ≡ length (v ∷ vs) = omega (arith, t3.2, two) in
    let text : number_bytes w16 tail.count ++ c.0.1 ≡ number_bytes w16 (length (v ∷ vs)) ++ scalars_bytes (v ∷ vs) =
    ap (λ (n : ℕ). number_bytes w16 n ++ c.0.1) count ∙ ap (λ (r : List ℕ). number_bytes w16 (length (v ∷ vs)) ++ r) t3.0 in
    let behind = t2.parts ∙ ap (λ (r : List ℕ). token_bytes tail.token ++ (origin_bytes tail.origin ++ r)) text in
    let whole = t0.parts ∙ ap (λ (r : List ℕ). number_bytes w32 head.doc ++ (id_bytes head.id ++ r)) (t1.0.parts ∙ ap (λ (r : List ℕ). deps_bytes b.0.0 ++ r) behind) in
    let made : Run = record { first = first v; others = vs } in
    let operation : IsOperation (first v) = record { id = t0.id; doc = t0.doc; token = t2.token; deps = t1.1; replicas = t1.2; body = (t2.origin, t3.1.0) } in
    let piece : is_piece made ≡ true = room_fits (first v) vs (tail.count - 1) t3.2 (omega (arith, two)) counted.1 in
    subst (λ (q : Run). ReadRun bytes has_token q) (ok_is made p f.2)
    (record {
      parts = whole;
      fits = record { first = operation; others = t3.1.1; piece = piece };
      has = t2.has;
      some = omega (arith, t3.2, two);
    })

-- what there is room for is a number of characters
counted_again : (op : Op) (n : ℕ) → 0 < n → has_room_behind op n ≡ true → is_count op (suc n) ≡ true
counted_again op n some room =
    let two : nat_le 2 (suc n) ≡ true = grind (arith, nat_tests) in
    let back : suc n - 1 ≡ n = omega arith in
    rw (two, back, room) refl

pub few_others : (op : Op) (n : ℕ) → has_room_behind op n ≡ true → n < 256
few_others op n room =
    let parts = and_parts (is_insert op.body) _ room in
    let few : nat_lt n 256 ≡ true = (and_parts _ _ parts.1).0 in
    grind (arith, nat_tests)

again : (id : Id) (doc : ℕ) (token : Option ℕ) (deps : List (ℕ × ℕ)) (origin : Option Id) (v : ℕ) (vs : List ℕ)
    → IsOperation (record { id = id; doc = doc; token = token; deps = deps; body = Insert origin v }) → AreScalars vs → 0 < length vs
    → has_room_behind (record { id = id; doc = doc; token = token; deps = deps; body = Insert origin v }) (length vs) ≡ true
    → run_at (is_some token) (run_fields (record { id = id; doc = doc; token = token; deps = deps; body = Insert origin v }) vs)
    ≡ Ok (record { first = record { id = id; doc = doc; token = token; deps = deps; body = Insert origin v }; others = vs })
unfolding run_at run_fields text_bytes run_head_at run_tail_at
again id doc token deps origin v vs fits scalars some room =
    let op : Op = record { id = id; doc = doc; token = token; deps = deps; body = Insert origin v } in
    let text = number_bytes w16 (suc (length vs)) ++ scalars_bytes (v ∷ vs) in
    let back : suc (length vs) - 1 ≡ length vs = omega arith in
    let counted = counted_again op (length vs) some room in
    let few = few_others op (length vs) room in
    rw (
      number_again w32 (2 ^ 32) wide32 doc (id_bytes id ++ (deps_bytes deps ++ (token_bytes token ++ (origin_bytes origin ++ text)))) fits.doc,
      id_again id (deps_bytes deps ++ (token_bytes token ++ (origin_bytes origin ++ text))) fits.id,
      deps_again deps (token_bytes token ++ (origin_bytes origin ++ text)) fits.deps fits.replicas,
      token_again token (origin_bytes origin ++ text) fits.token,
      origin_again origin text fits.body.0,
      number_again w16 (2 ^ 16) wide16 (suc (length vs)) (scalars_bytes (v ∷ vs)) (omega (arith, few)),
      counted,
      back,
      text_again v vs (fits.body.1, scalars),
    ) refl

pub run_again : (op : Op) (vs : List ℕ) → IsOperation op → AreScalars vs → 0 < length vs → has_room_behind op (length vs) ≡ true
    → run_at (is_some op.token) (run_fields op vs) ≡ Ok (record { first = op; others = vs })
run_again op vs fits scalars some room = by_body op.id op.doc op.token op.deps op.body vs fits scalars some room
  where
    by_body : (id : Id) (doc : ℕ) (token : Option ℕ) (deps : List (ℕ × ℕ)) (body : Body) (vs : List ℕ)
        → IsOperation (record { id = id; doc = doc; token = token; deps = deps; body = body }) → AreScalars vs → 0 < length vs
        → has_room_behind (record { id = id; doc = doc; token = token; deps = deps; body = body }) (length vs) ≡ true
        → run_at (is_some token) (run_fields (record { id = id; doc = doc; token = token; deps = deps; body = body }) vs)
        ≡ Ok (record { first = record { id = id; doc = doc; token = token; deps = deps; body = body }; others = vs })
    by_body id doc token deps (Insert origin v) vs fits scalars some room = again id doc token deps origin v vs fits scalars some room
    by_body id doc token deps (Remove target) vs fits scalars some room = absurd (let never : ⊥ = cc in never)
    by_body id doc token deps (AddMark mark from to) vs fits scalars some room = absurd (let never : ⊥ = cc in never)
    by_body id doc token deps (RemoveMark mark from to) vs fits scalars some room = absurd (let never : ⊥ = cc in never)
