-- Whole bodies: what is read is spelled so, and what is spelled so is read.
use Rattle.std.proofs.Common.{◌≡◌, ℕ, zero, suc, ◌^◌, ◌+◌, ◌-◌, ◌<◌, ◌≤◌, Bool, true, false, ◌&&◌, inl, inr, arith, Option, Some, None, cond, eqb}
use Rattle.std.proofs.Common.{ltb, List, [], ◌∷◌, ◌++◌, length, Ok, Err, refl, sym, ap, subst, ◌∙◌, append_assoc}
use Rattle.std.specs.Int.{w32}
use Rattle.std.specs.Prelude.{is_some}
use Rattle.std.proofs.lemmas.Bool.{cases_Bool, and_parts, eqb-true, ltb-true, lt-ltb, le-ltb}
use Rattle.std.proofs.lemmas.List.{append-nil, nil_from_length}
use lib.Utf8.{scalar_fits}
use Rattle.op_model.specs.declared.op.Op.{Op}
use Rattle.op_model.specs.declared.op.Body.{Body}
use Rattle.op_model.specs.declared.op.Body.TheVariants.{Insert, Remove, AddMark, RemoveMark}
use Rattle.change_codec.specs.declared.codec_error.CodecError.TheVariants.{Length}
use Rattle.change_codec.specs.declared.format.Format.{Format}
use Rattle.change_codec.specs.declared.format.Format.TheVariants.{Third}
use Rattle.change_codec.specs.declared.head.Head.{Head}
use Rattle.change_codec.specs.declared.content.Kind.{Kind}
use Rattle.change_codec.specs.declared.content.Kind.TheVariants as kind
use Rattle.change_codec.specs.Heads.{kind_of, head_of, origin_of}
use Rattle.change_codec.specs.Spelling.{number_bytes, id_bytes, deps_bytes, origin_bytes}
use Rattle.change_codec.specs.Spelling.{mark_bytes, key_bytes, start_bytes, end_bytes, kind_byte}
use Rattle.change_codec.specs.Spelling.{token_bytes, tagged, content_bytes, body_bytes}
use Rattle.change_codec.specs.Reading.{◌>>=◌, number_at, id_at, deps_at, origin_at, scalar_at}
use Rattle.change_codec.specs.Reading.{mark_at, key_at, span_at, kind_named, kind_at, token_at, content_at, body_at}
use Rattle.change_codec.specs.Reading.{named_at, behind_at, origin_for, only_value}
use Rattle.change_codec.specs.Reading.{head_at, rest_at, with_head, op_at}
use Rattle.change_codec.specs.Formats.{has_tokens, IsOf}
use Rattle.change_codec.specs.Fits.{IsId, IsContent, IsToken, IsOperation}
use Rattle.change_codec.proofs.Steps.{IsBytes, bind_ok, passed, ok_is, Takes, Takes-then}
use Rattle.change_codec.proofs.Numbers.{wide32, number_takes, number_again}
use Rattle.change_codec.proofs.IdLaws.{id_takes, id_again, deps_take, deps_again}
use Rattle.change_codec.proofs.ContentLaws.{origin_takes, origin_again, scalar_takes, scalar_again}
use Rattle.change_codec.proofs.ContentLaws.{mark_takes, mark_again, key_takes, key_again}
use Rattle.change_codec.proofs.ContentLaws.{span_takes, span_again}
use Rattle.change_codec.proofs.TokenLaws.{token_takes, token_again}

-- the first byte of a record of this kind
abbrev tag_of : Kind → ℕ
tag_of kind.Insert = 1
tag_of kind.Remove = 2
tag_of kind.AddMark = 3
tag_of kind.RemoveMark = 4

named_takes : (b : ℕ) (k : Kind) → kind_named b ≡ Ok k → b ≡ tag_of k
unfolding kind_named
named_takes zero k e = absurd cc
named_takes (suc zero) k e = ap tag_of (ok_is kind.Insert k e)
named_takes (suc (suc zero)) k e = ap tag_of (ok_is kind.Remove k e)
named_takes (suc (suc (suc zero))) k e = ap tag_of (ok_is kind.AddMark k e)
named_takes (suc (suc (suc (suc zero)))) k e = ap tag_of (ok_is kind.RemoveMark k e)
named_takes (suc (suc (suc (suc (suc b))))) k e = absurd cc

named_again : (body : Body) → kind_named (kind_byte body) ≡ Ok (kind_of body)
unfolding kind_named
named_again (Insert origin value) = refl
named_again (Remove target) = refl
named_again (AddMark mark from to) = refl
named_again (RemoveMark mark from to) = refl

-- what the first byte says: a kind, and a token where the format has them
record Tag (format : Format) (bytes : List ℕ) (k : Kind) (has_token : Bool) (rest : List ℕ) : Type 0 where
  taken : Takes bytes (tagged has_token (tag_of k) ∷ []) rest
  within : has_tokens format ≡ false → has_token ≡ false

kind_takes : (format : Format) (bytes : List ℕ) (x : (Kind × Bool) × List ℕ) → IsBytes bytes → kind_at format bytes ≡ Ok x → Tag format bytes x.0.0 x.0.1 x.1
unfolding kind_at
kind_takes format [] x fits e = absurd cc
kind_takes format (b ∷ rest) x fits e =
    elim (cases_Bool (ltb 16 b && has_tokens format)) [
      | inl with_token ↦
          let above = and_parts (ltb 16 b) (has_tokens format) with_token in
          let high = ltb-true 16 b above.0 in
          let a = bind_ok (kind_named (b - 16)) (λ k. Ok ((k, true), rest)) x (sym (ap (λ t. cond t (kind_named (b - 16) >>= λ k. Ok ((k, true), rest)) (kind_named b >>= λ k. Ok ((k, false), rest))) with_token) ∙ e) in
          let is : b ≡ 16 + tag_of a.0 = omega (arith, named_takes (b - 16) a.0 a.1, high) in
          subst (λ (y : (Kind × Bool) × List ℕ). Tag format (b ∷ rest) y.0.0 y.0.1 y.1) (ok_is ((a.0, true), rest) x a.2)
          (record { taken = record { parts = ap (λ n. n ∷ rest) is; rest_fits = λ i. fits (suc i) }; within = λ none. absurd (let has = above.1 in let broken : ⊥ = cc in broken) })
      | inr without ↦
          let a = bind_ok (kind_named b) (λ k. Ok ((k, false), rest)) x (sym (ap (λ t. cond t (kind_named (b - 16) >>= λ k. Ok ((k, true), rest)) (kind_named b >>= λ k. Ok ((k, false), rest))) without) ∙ e) in
          subst (λ (y : (Kind × Bool) × List ℕ). Tag format (b ∷ rest) y.0.0 y.0.1 y.1) (ok_is ((a.0, false), rest) x a.2)
          (record { taken = record { parts = ap (λ n. n ∷ rest) (named_takes b a.0 a.1); rest_fits = λ i. fits (suc i) }; within = λ none. refl })
    ]

-- the kinds are few
kind_few : (body : Body) → (0 < kind_byte body) × (kind_byte body ≤ 4)
kind_few (Insert origin value) = (omega arith, omega arith)
kind_few (Remove target) = (omega arith, omega arith)
kind_few (AddMark mark from to) = (omega arith, omega arith)
kind_few (RemoveMark mark from to) = (omega arith, omega arith)

kind_again : (format : Format) (body : Body) (has_token : Bool) (rest : List ℕ) → (has_tokens format ≡ false → has_token ≡ false)
    → kind_at format (tagged has_token (kind_byte body) ∷ rest) ≡ Ok ((kind_of body, has_token), rest)
unfolding kind_at
kind_again format body false rest within =
    let low : ltb 16 (kind_byte body) ≡ false = le-ltb _ _ (omega (arith, (kind_few body).1)) in
    rw (low, named_again body) refl
kind_again format body true rest within =
    let high : ltb 16 (16 + kind_byte body) ≡ true = lt-ltb _ _ (omega (arith, (kind_few body).0)) in
    let back : (16 + kind_byte body) - 16 ≡ kind_byte body = omega arith in
    rw (high, has within, back, named_again body) refl
  where
    has : (has_tokens format ≡ false → true ≡ false) → has_tokens format ≡ true
    has never = elim (cases_Bool (has_tokens format)) [ inl yes_it ↦ yes_it | inr none ↦ absurd (let broken = never none in let never_so : ⊥ = cc in never_so) ]

-- what was read as content of a kind
record Content (k : Kind) (bytes : List ℕ) (body : Body) (rest : List ℕ) : Type 0 where
  taken : Takes bytes (content_bytes body) rest
  fits : IsContent body
  tag : kind_byte body ≡ tag_of k

content_takes : (k : Kind) (bytes : List ℕ) (x : Body × List ℕ) → IsBytes bytes → content_at k bytes ≡ Ok x → Content k bytes x.0 x.1
unfolding content_at content_bytes
content_takes kind.Insert bytes x fits e =
    let a = bind_ok (origin_at bytes) (λ origin. scalar_at origin.1 >>= λ value. Ok (Insert origin.0 value.0, value.1)) x e in
    let b = bind_ok (scalar_at a.0.1) (λ value. Ok (Insert a.0.0 value.0, value.1)) x a.2 in
    let t0 = origin_takes bytes a.0 fits a.1 in
    let t1 = scalar_takes a.0.1 b.0 t0.0.rest_fits b.1 in
    let both = Takes-then bytes (origin_bytes a.0.0) a.0.1 (number_bytes w32 b.0.0) b.0.1 t0.0 t1.0 in
    subst (λ (y : Body × List ℕ). Content kind.Insert bytes y.0 y.1) (ok_is (Insert a.0.0 b.0.0, b.0.1) x b.2) (record { taken = both; fits = (t0.1, t1.1); tag = refl })
content_takes kind.Remove bytes x fits e =
    let a = bind_ok (id_at bytes) (λ target. Ok (Remove target.0, target.1)) x e in
    let t = id_takes bytes a.0 fits a.1 in
    subst (λ (y : Body × List ℕ). Content kind.Remove bytes y.0 y.1) (ok_is (Remove a.0.0, a.0.1) x a.2) (record { taken = t.0; fits = t.1; tag = refl })
content_takes kind.AddMark bytes x fits e =
    let a = bind_ok (mark_at bytes) (λ mark. span_at mark.1 >>= λ span. Ok (AddMark mark.0 span.0.0 span.0.1, span.1)) x e in
    let b = bind_ok (span_at a.0.1) (λ span. Ok (AddMark a.0.0 span.0.0 span.0.1, span.1)) x a.2 in
    let t0 = mark_takes bytes a.0 fits a.1 in
    let t1 = span_takes a.0.1 b.0 t0.0.rest_fits b.1 in
    let both = Takes-then bytes (mark_bytes a.0.0) a.0.1 (start_bytes b.0.0.0 ++ end_bytes b.0.0.1) b.0.1 t0.0 t1.0 in
    subst (λ (y : Body × List ℕ). Content kind.AddMark bytes y.0 y.1) (ok_is (AddMark a.0.0 b.0.0.0 b.0.0.1, b.0.1) x b.2) (record { taken = both; fits = (t0.1, t1.1.0, t1.1.1); tag = refl })
content_takes kind.RemoveMark bytes x fits e =
    let a = bind_ok (key_at bytes) (λ mark. span_at mark.1 >>= λ span. Ok (RemoveMark mark.0 span.0.0 span.0.1, span.1)) x e in
    let b = bind_ok (span_at a.0.1) (λ span. Ok (RemoveMark a.0.0 span.0.0 span.0.1, span.1)) x a.2 in
    let t0 = key_takes bytes a.0 fits a.1 in
    let t1 = span_takes a.0.1 b.0 t0.0.rest_fits b.1 in
    let both = Takes-then bytes (key_bytes a.0.0) a.0.1 (start_bytes b.0.0.0 ++ end_bytes b.0.0.1) b.0.1 t0.0 t1.0 in
    subst (λ (y : Body × List ℕ). Content kind.RemoveMark bytes y.0 y.1) (ok_is (RemoveMark a.0.0 b.0.0.0 b.0.0.1, b.0.1) x b.2) (record { taken = both; fits = (t0.1, t1.1.0, t1.1.1); tag = refl })

content_again : (body : Body) (rest : List ℕ) → IsContent body → content_at (kind_of body) (content_bytes body ++ rest) ≡ Ok (body, rest)
unfolding content_at content_bytes
content_again (Insert origin value) rest fits =
    ap (content_at kind.Insert) (append_assoc (origin_bytes origin) (number_bytes w32 value) rest)
    ∙ rw (origin_again origin (number_bytes w32 value ++ rest) fits.0, scalar_again value rest (scalar_fits value fits.1) fits.1) refl
content_again (Remove target) rest fits = rw (id_again target rest fits) refl
content_again (AddMark mark from to) rest fits =
    let regrouped : (mark_bytes mark ++ (start_bytes from ++ end_bytes to)) ++ rest ≡ mark_bytes mark ++ (start_bytes from ++ (end_bytes to ++ rest)) = append_assoc (mark_bytes mark) (start_bytes from ++ end_bytes to) rest ∙ ap (λ (w : List ℕ). mark_bytes mark ++ w) (append_assoc (start_bytes from) (end_bytes to) rest) in
    ap (content_at kind.AddMark) regrouped ∙ rw (mark_again mark (start_bytes from ++ (end_bytes to ++ rest)) fits.0, span_again from to rest fits.1 fits.2) refl
content_again (RemoveMark mark from to) rest fits =
    let regrouped : (key_bytes mark ++ (start_bytes from ++ end_bytes to)) ++ rest ≡ key_bytes mark ++ (start_bytes from ++ (end_bytes to ++ rest)) = append_assoc (key_bytes mark) (start_bytes from ++ end_bytes to) rest ∙ ap (λ (w : List ℕ). key_bytes mark ++ w) (append_assoc (start_bytes from) (end_bytes to) rest) in
    ap (content_at kind.RemoveMark) regrouped ∙ rw (key_again mark (start_bytes from ++ (end_bytes to ++ rest)) fits.0, span_again from to rest fits.1 fits.2) refl

body_takes : (k : Kind) (bytes : List ℕ) (body : Body) → IsBytes bytes → body_at k bytes ≡ Ok body → Content k bytes body []
unfolding body_at
body_takes k bytes body fits e =
    let a = bind_ok (content_at k bytes) (λ content. cond (eqb (length content.1) 0) (Ok content.0) (Err Length)) body e in
    let p = passed (eqb (length a.0.1) 0) Length a.0.0 body a.2 in
    let t = content_takes k bytes a.0 fits a.1 in
    let nothing : a.0.1 ≡ [] = nil_from_length a.0.1 (eqb-true _ _ p.0) in
    subst (λ (b : Body). Content k bytes b []) p.1 (subst (λ (r : List ℕ). Content k bytes a.0.0 r) nothing t)

body_again : (body : Body) → IsContent body → body_at (kind_of body) (content_bytes body) ≡ Ok body
unfolding body_at
body_again body fits =
    let read : content_at (kind_of body) (content_bytes body) ≡ Ok (body, []) = ap (content_at (kind_of body)) (sym (append-nil (content_bytes body))) ∙ content_again body [] fits in
    rw read refl

-- the bytes of a head
abbrev head_bytes : Head → List ℕ
head_bytes head = tagged head.has_token (tag_of head.kind) ∷ (number_bytes w32 head.doc ++ id_bytes head.id)

-- what was read as a head
record FrontHead (format : Format) (bytes : List ℕ) (head : Head) (rest : List ℕ) : Type 0 where
  taken : Takes bytes (head_bytes head) rest
  doc : head.doc < 2 ^ 32
  id : IsId head.id
  within : has_tokens format ≡ false → head.has_token ≡ false

head_takes : (format : Format) (bytes : List ℕ) (x : Head × List ℕ) → IsBytes bytes → head_at format bytes ≡ Ok x → FrontHead format bytes x.0 x.1
unfolding head_at
head_takes format bytes x fits e =
    let a = bind_ok (kind_at format bytes) (λ tag. number_at w32 tag.1 >>= λ doc. id_at doc.1 >>= λ id. Ok (record { kind = tag.0.0; has_token = tag.0.1; doc = doc.0; id = id.0 }, id.1)) x e in
    let b = bind_ok (number_at w32 a.0.1) (λ doc. id_at doc.1 >>= λ id. Ok (record { kind = a.0.0.0; has_token = a.0.0.1; doc = doc.0; id = id.0 }, id.1)) x a.2 in
    let c = bind_ok (id_at b.0.1) (λ id. Ok (record { kind = a.0.0.0; has_token = a.0.0.1; doc = b.0.0; id = id.0 }, id.1)) x b.2 in
    let t0 = kind_takes format bytes a.0 fits a.1 in
    let t1 = number_takes w32 (2 ^ 32) wide32 a.0.1 b.0 t0.taken.rest_fits b.1 in
    let t2 = id_takes b.0.1 c.0 t1.0.rest_fits c.1 in
    let e12 = Takes-then a.0.1 (number_bytes w32 b.0.0) b.0.1 (id_bytes c.0.0) c.0.1 t1.0 t2.0 in
    let e02 = Takes-then bytes (tagged a.0.0.1 (tag_of a.0.0.0) ∷ []) a.0.1 (number_bytes w32 b.0.0 ++ id_bytes c.0.0) c.0.1 t0.taken e12 in
    let made : Head × List ℕ = (record { kind = a.0.0.0; has_token = a.0.0.1; doc = b.0.0; id = c.0.0 }, c.0.1) in
    subst (λ (y : Head × List ℕ). FrontHead format bytes y.0 y.1) (ok_is made x c.2) (record { taken = e02; doc = t1.1; id = t2.1; within = t0.within })

-- what was read behind the deps
record Remainder (bytes : List ℕ) (has_token : Bool) (k : Kind) (token : Option ℕ) (body : Body) : Type 0 where
  taken : Takes bytes (token_bytes token ++ content_bytes body) []
  token_fits : IsToken token
  body_fits : IsContent body
  has : has_token ≡ is_some token
  tag : kind_byte body ≡ tag_of k

rest_takes : (has_token : Bool) (k : Kind) (bytes : List ℕ) (x : Option ℕ × Body) → IsBytes bytes → rest_at has_token k bytes ≡ Ok x → Remainder bytes has_token k x.0 x.1
rest_takes has_token k bytes x fits e =
    let a = bind_ok (token_at has_token bytes) (λ token. body_at k token.1 >>= λ body. Ok (token.0, body)) x e in
    let b = bind_ok (body_at k a.0.1) (λ body. Ok (a.0.0, body)) x a.2 in
    let t0 = token_takes has_token bytes a.0 fits a.1 in
    let t1 = body_takes k a.0.1 b.0 t0.taken.rest_fits b.1 in
    let both = Takes-then bytes (token_bytes a.0.0) a.0.1 (content_bytes b.0) [] t0.taken t1.taken in
    subst (λ (y : Option ℕ × Body). Remainder bytes has_token k y.0 y.1) (ok_is (a.0.0, b.0) x b.2)
    (record { taken = both; token_fits = t0.fits; body_fits = t1.fits; has = t0.has; tag = t1.tag })

rest_again : (token : Option ℕ) (body : Body) → IsToken token → IsContent body → rest_at (is_some token) (kind_of body) (token_bytes token ++ content_bytes body) ≡ Ok (token, body)
rest_again token body fits content = rw (token_again token (content_bytes body) fits, body_again body content) refl

-- no token where the head has none
none_is : (token : Option ℕ) → false ≡ is_some token → token ≡ None
none_is None e = refl
none_is (Some token) e = absurd cc

pub op_takes : (format : Format) (bytes : List ℕ) (op : Op) → IsBytes bytes → op_at format bytes ≡ Ok op → (bytes ≡ body_bytes op) × IsOperation op × IsOf format op
unfolding op_at body_bytes
op_takes format bytes op fits e =
    let a = bind_ok (head_at format bytes) (λ head. deps_at head.1 >>= λ deps. with_head head.0 deps.0 (rest_at head.0.has_token head.0.kind deps.1)) op e in
    let b = bind_ok (deps_at a.0.1) (λ deps. with_head a.0.0 deps.0 (rest_at a.0.0.has_token a.0.0.kind deps.1)) op a.2 in
    let c = bind_ok (rest_at a.0.0.has_token a.0.0.kind b.0.1) (λ x. Ok (record { id = a.0.0.id; doc = a.0.0.doc; token = x.0; deps = b.0.0; body = x.1 })) op b.2 in
    let head = a.0.0 in
    let t0 = head_takes format bytes a.0 fits a.1 in
    let t1 = deps_take a.0.1 b.0 t0.taken.rest_fits b.1 in
    let t2 = rest_takes head.has_token head.kind b.0.1 c.0 t1.0.rest_fits c.1 in
    let behind = token_bytes c.0.0 ++ content_bytes c.0.1 in
    let tail = Takes-then a.0.1 (deps_bytes b.0.0) b.0.1 behind [] t1.0 t2.taken in
    let whole = Takes-then bytes (head_bytes head) a.0.1 (deps_bytes b.0.0 ++ behind) [] t0.taken tail in
    let made : Op = record { id = head.id; doc = head.doc; token = c.0.0; deps = b.0.0; body = c.0.1 } in
    let fields = number_bytes w32 head.doc ++ (id_bytes head.id ++ (deps_bytes b.0.0 ++ behind)) in
    let grouped : bytes ≡ tagged head.has_token (tag_of head.kind) ∷ fields =
    whole.parts ∙ append-nil (head_bytes head ++ (deps_bytes b.0.0 ++ behind))
    ∙ ap (λ (w : List ℕ). tagged head.has_token (tag_of head.kind) ∷ w) (append_assoc (number_bytes w32 head.doc) (id_bytes head.id) (deps_bytes b.0.0 ++ behind)) in
    let spelled_so : bytes ≡ body_bytes made =
    grouped ∙ ap (λ (k : ℕ). tagged head.has_token k ∷ fields) (sym t2.tag) ∙ ap (λ (has : Bool). tagged has (kind_byte c.0.1) ∷ fields) t2.has in
    let valid : IsOperation made = record { id = t0.id; doc = t0.doc; token = t2.token_fits; deps = t1.1; replicas = t1.2; body = t2.body_fits } in
    let of_format : IsOf format made = λ none. none_is c.0.0 (sym (t0.within none) ∙ t2.has) in
    subst (λ (o : Op). (bytes ≡ body_bytes o) × IsOperation o × IsOf format o) (ok_is made op c.2) (spelled_so, valid, of_format)

-- a format that has no tokens has the operation without one
within_of : (format : Format) (op : Op) → IsOf format op → has_tokens format ≡ false → is_some op.token ≡ false
within_of format op of_format none = ap is_some (of_format none)

pub op_again : (format : Format) (op : Op) → IsOf format op → IsOperation op → op_at format (body_bytes op) ≡ Ok op
unfolding op_at head_at body_bytes
op_again format op of_format fits =
    let behind = token_bytes op.token ++ content_bytes op.body in
    rw (
      kind_again format op.body (is_some op.token) (number_bytes w32 op.doc ++ (id_bytes op.id ++ (deps_bytes op.deps ++ behind))) (within_of format op of_format),
      number_again w32 (2 ^ 32) wide32 op.doc (id_bytes op.id ++ (deps_bytes op.deps ++ behind)) fits.doc,
      id_again op.id (deps_bytes op.deps ++ behind) fits.id,
      deps_again op.deps behind fits.deps fits.replicas,
      rest_again op.token op.body fits.token fits.body,
    ) refl

-- what a body begins with, whatever follows it, where records with tokens are read
pub head_again : (op : Op) (rest : List ℕ) → IsOperation op
    → head_at Third (body_bytes op ++ rest) ≡ Ok (head_of op, (deps_bytes op.deps ++ (token_bytes op.token ++ content_bytes op.body)) ++ rest)
unfolding head_at body_bytes
head_again op rest fits =
    let behind = deps_bytes op.deps ++ (token_bytes op.token ++ content_bytes op.body) in
    let tail = behind ++ rest in
    let doc = number_bytes w32 op.doc in
    let id = id_bytes op.id in
    let regrouped : (doc ++ (id ++ behind)) ++ rest ≡ doc ++ (id ++ tail) =
    append_assoc doc (id ++ behind) rest
    ∙ ap (λ (w : List ℕ). doc ++ w) (append_assoc id behind rest) in
    ap (λ (w : List ℕ). head_at Third (tagged (is_some op.token) (kind_byte op.body) ∷ w)) regrouped
    ∙ rw (
      kind_again Third op.body (is_some op.token) (doc ++ (id ++ tail)) (λ none. absurd (let broken : ⊥ = cc in broken)),
      number_again w32 (2 ^ 32) wide32 op.doc (id ++ tail) fits.doc,
      id_again op.id tail fits.id,
    ) refl

-- the fields behind the head, one by one
behind_deps : (op : Op) (rest : List ℕ) → (deps_bytes op.deps ++ (token_bytes op.token ++ content_bytes op.body)) ++ rest
    ≡ deps_bytes op.deps ++ (token_bytes op.token ++ (content_bytes op.body ++ rest))
behind_deps op rest =
    append_assoc (deps_bytes op.deps) (token_bytes op.token ++ content_bytes op.body) rest
    ∙ ap (λ (w : List ℕ). deps_bytes op.deps ++ w) (append_assoc (token_bytes op.token) (content_bytes op.body) rest)

-- what was written behind head and deps as a token is read again
pub token_is_read : (op : Op) (rest : List ℕ) → IsOperation op → named_at (body_bytes op ++ rest) ≡ Ok op.token
unfolding named_at
token_is_read op rest fits =
    rw (
      head_again op rest fits,
      behind_deps op rest,
      deps_again op.deps (token_bytes op.token ++ (content_bytes op.body ++ rest)) fits.deps fits.replicas,
      token_again op.token (content_bytes op.body ++ rest) fits.token,
    ) refl

-- the origin of what was written as content is read again
origin_for_again : (body : Body) (rest : List ℕ) → IsContent body → origin_for (kind_of body) (content_bytes body ++ rest) ≡ Ok (origin_of body)
unfolding content_bytes
origin_for_again (Insert origin value) rest fits =
    ap (λ (w : List ℕ). only_value (origin_at w)) (append_assoc (origin_bytes origin) (number_bytes w32 value) rest)
    ∙ ap only_value (origin_again origin (number_bytes w32 value ++ rest) fits.0)
origin_for_again (Remove target) rest fits = refl
origin_for_again (AddMark mark from to) rest fits = refl
origin_for_again (RemoveMark mark from to) rest fits = refl

-- and the origin behind it
pub origin_is_read : (op : Op) (rest : List ℕ) → IsOperation op → behind_at (body_bytes op ++ rest) ≡ Ok (origin_of op.body)
unfolding behind_at
origin_is_read op rest fits =
    rw (
      head_again op rest fits,
      behind_deps op rest,
      deps_again op.deps (token_bytes op.token ++ (content_bytes op.body ++ rest)) fits.deps fits.replicas,
      token_again op.token (content_bytes op.body ++ rest) fits.token,
      origin_for_again op.body rest fits.body,
    ) refl
