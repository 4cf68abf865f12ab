-- The URL of a link that was read.
use Rattle.std.proofs.Common.{◌≡◌, ℕ, zero, suc, ◌<◌, ◌≤◌, cond, eqb, List, [], ◌∷◌, length, Ok, Err, subst, arith}
use Rattle.std.specs.Int.{w16, w128}
use Rattle.std.specs.Str.{is_utf8}
use Rattle.op_model.specs.declared.op.Body.{Body}
use Rattle.op_model.specs.declared.op.Body.TheVariants.{Insert, Remove, AddMark, RemoveMark}
use Rattle.op_model.specs.declared.mark.Mark.{Mark}
use Rattle.op_model.specs.declared.mark.Mark.TheVariants as added
use Rattle.change_codec.specs.declared.codec_error.CodecError.TheVariants.{Length, Utf8}
use Rattle.change_codec.specs.declared.content.Kind.{Kind}
use Rattle.change_codec.specs.declared.content.Kind.TheVariants as kind
use Rattle.change_codec.specs.Reading.{◌>>=◌, within, number_at, bytes_at, url_at, mark_at, key_at, id_at, origin_at, scalar_at, span_at, content_at, body_at}
use Rattle.change_codec.specs.Lent.{HasUrl, HasUrlOf}
use Rattle.change_codec.proofs.Steps.{bind_ok, passed, ok_is}
use Rattle.change_codec.proofs.Clocks.{in_range}
use Rattle.change_codec.proofs.Urls.{length-taken}

-- a URL that was read has 1 to 1,024 bytes
pub url_range : (bytes : List ℕ) (x : List ℕ × List ℕ) → url_at bytes ≡ Ok x → (0 < length x.0) × (length x.0 ≤ 1024)
unfolding url_at
url_range bytes x e =
    let a = bind_ok (number_at w16 bytes >>= within 1 1024) (λ len. bytes_at len.0 len.1 >>= λ text. cond (is_utf8 text.0) (Ok text) (Err Utf8)) x e in
    let b = bind_ok (bytes_at a.0.0 a.0.1) (λ text. cond (is_utf8 text.0) (Ok text) (Err Utf8)) x a.2 in
    let n = bind_ok (number_at w16 bytes) (within 1 1024) a.0 a.1 in
    let range = in_range 1 1024 n.0 a.0 n.2 in
    let len = length-taken a.0.0 a.0.1 b.0.0 b.0.1 b.1 in
    let p = passed (is_utf8 b.0.0) Utf8 b.0 x b.2 in
    subst (λ (y : List ℕ × List ℕ). (0 < length y.0) × (length y.0 ≤ 1024)) p.1 (omega (arith, len, range.1), omega (arith, len, range.2))

mark_url : (bytes : List ℕ) (x : Mark × List ℕ) → mark_at bytes ≡ Ok x → HasUrlOf x.0
unfolding mark_at
mark_url [] x e = absurd cc
mark_url (zero ∷ rest) x e = absurd cc
mark_url (suc zero ∷ rest) x e = subst (λ (y : Mark × List ℕ). HasUrlOf y.0) (ok_is (added.Strong, rest) x e) tt
mark_url (suc (suc zero) ∷ rest) x e = subst (λ (y : Mark × List ℕ). HasUrlOf y.0) (ok_is (added.Em, rest) x e) tt
mark_url (suc (suc (suc zero)) ∷ rest) x e =
    let a = bind_ok (url_at rest) (λ url. Ok (added.Link url.0, url.1)) x e in
    subst (λ (y : Mark × List ℕ). HasUrlOf y.0) (ok_is (added.Link a.0.0, a.0.1) x a.2) (url_range rest a.0 a.1)
mark_url (suc (suc (suc (suc zero))) ∷ rest) x e =
    let a = bind_ok (number_at w128 rest) (λ id. Ok (added.Comment id.0, id.1)) x e in
    subst (λ (y : Mark × List ℕ). HasUrlOf y.0) (ok_is (added.Comment a.0.0, a.0.1) x a.2) tt
mark_url (suc (suc (suc (suc (suc b)))) ∷ rest) x e = absurd cc

content_url : (k : Kind) (bytes : List ℕ) (x : Body × List ℕ) → content_at k bytes ≡ Ok x → HasUrl x.0
unfolding content_at
content_url kind.Insert bytes x e =
    let a = bind_ok (origin_at bytes) (λ origin. scalar_at origin.1 >>= λ value. Ok (Insert origin.0 value.0, value.1)) x e in
    let b = bind_ok (scalar_at a.0.1) (λ value. Ok (Insert a.0.0 value.0, value.1)) x a.2 in
    subst (λ (y : Body × List ℕ). HasUrl y.0) (ok_is (Insert a.0.0 b.0.0, b.0.1) x b.2) tt
content_url kind.Remove bytes x e =
    let a = bind_ok (id_at bytes) (λ target. Ok (Remove target.0, target.1)) x e in
    subst (λ (y : Body × List ℕ). HasUrl y.0) (ok_is (Remove a.0.0, a.0.1) x a.2) tt
content_url kind.AddMark bytes x e =
    let a = bind_ok (mark_at bytes) (λ mark. span_at mark.1 >>= λ span. Ok (AddMark mark.0 span.0.0 span.0.1, span.1)) x e in
    let b = bind_ok (span_at a.0.1) (λ span. Ok (AddMark a.0.0 span.0.0 span.0.1, span.1)) x a.2 in
    subst (λ (y : Body × List ℕ). HasUrl y.0) (ok_is (AddMark a.0.0 b.0.0.0 b.0.0.1, b.0.1) x b.2) (mark_url bytes a.0 a.1)
content_url kind.RemoveMark bytes x e =
    let a = bind_ok (key_at bytes) (λ mark. span_at mark.1 >>= λ span. Ok (RemoveMark mark.0 span.0.0 span.0.1, span.1)) x e in
    let b = bind_ok (span_at a.0.1) (λ span. Ok (RemoveMark a.0.0 span.0.0 span.0.1, span.1)) x a.2 in
    subst (λ (y : Body × List ℕ). HasUrl y.0) (ok_is (RemoveMark a.0.0 b.0.0.0 b.0.0.1, b.0.1) x b.2) tt

-- the URL of a link that was read
pub body_url : (k : Kind) (bytes : List ℕ) (x : Body) → body_at k bytes ≡ Ok x → HasUrl x
unfolding body_at
body_url k bytes x e =
    let a = bind_ok (content_at k bytes) (λ content. cond (eqb (length content.1) 0) (Ok content.0) (Err Length)) x e in
    let p = passed (eqb (length a.0.1) 0) Length a.0.0 x a.2 in
    subst HasUrl p.1 (content_url k bytes a.0 a.1)
