-- What an operation does: what is read is spelled so, and what is spelled so is read.
use Rattle.std.proofs.Common.{◌≡◌, ℕ, zero, suc, ◌^◌, ◌<◌, true, cond, List, [], ◌∷◌, ◌++◌, length}
use Rattle.std.proofs.Common.{Option, Some, None, Ok, Err, refl, sym, ap, subst, ◌∙◌, append_assoc}
use Rattle.std.proofs.Common.{arith}
use Rattle.std.specs.Int.{w16, w32, w128}
use Rattle.std.specs.Str.{is_utf8}
use Rattle.std.proofs.lemmas.Str.{is_utf8-from_IsUtf8, IsUtf8-from_is_utf8}
use lib.Utf8.{scalar}
use Rattle.op_ids.specs.Id.{Id}
use Rattle.op_model.specs.declared.anchor.Anchor.TheVariants.{Before, After}
use Rattle.op_model.specs.declared.anchor.Start.{Start}
use Rattle.op_model.specs.declared.anchor.Start.TheVariants as start
use Rattle.op_model.specs.declared.anchor.End.{End}
use Rattle.op_model.specs.declared.anchor.End.TheVariants as end
use Rattle.op_model.specs.declared.mark.Mark.{Mark}
use Rattle.op_model.specs.declared.mark.Mark.TheVariants as added
use Rattle.op_model.specs.declared.mark.MarkKey.{MarkKey}
use Rattle.op_model.specs.declared.mark.MarkKey.TheVariants as key
use Rattle.change_codec.specs.declared.codec_error.CodecError.TheVariants.{Scalar, Utf8}
use Rattle.change_codec.specs.Spelling.{number_bytes, id_bytes, origin_bytes, url_bytes, mark_bytes, key_bytes, anchor_bytes, start_bytes, end_bytes}
use Rattle.change_codec.specs.Reading.{◌>>=◌, within, number_at, bytes_at, id_at, origin_at, scalar_at, url_at, mark_at, key_at, start_at, end_at, span_at}
use Rattle.change_codec.specs.Fits.{IsOrigin, IsUrl, IsMark, IsKey, IsStart, IsEnd}
use Rattle.change_codec.proofs.Steps.{IsBytes, bind_ok, passed, ok_is, Takes, Takes-then}
use Rattle.change_codec.proofs.Numbers.{wide16, wide32, wide128, number_takes, number_again, bytes_take, bytes_again}
use Rattle.change_codec.proofs.IdLaws.{ranged_takes, ranged_again, id_takes, id_again}

-- a byte in front
pub tagged : (b : ℕ) (bytes text rest : List ℕ) → Takes bytes text rest → Takes (b ∷ bytes) (b ∷ text) rest
tagged b bytes text rest t = record { parts = ap (λ (w : List ℕ). b ∷ w) t.parts; rest_fits = t.rest_fits }

-- the bytes behind the first one
behind : (b : ℕ) (bytes : List ℕ) → IsBytes (b ∷ bytes) → IsBytes bytes
behind b bytes h i = h (suc i)

-- one byte alone
alone : (b : ℕ) (bytes : List ℕ) → IsBytes (b ∷ bytes) → Takes (b ∷ bytes) (b ∷ []) bytes
alone b bytes h = record { parts = refl; rest_fits = behind b bytes h }

pub origin_takes : (bytes : List ℕ) (x : Option Id × List ℕ) → IsBytes bytes → origin_at bytes ≡ Ok x → Takes bytes (origin_bytes x.0) x.1 × IsOrigin x.0
unfolding origin_at origin_bytes
origin_takes [] x fits e = absurd cc
origin_takes (zero ∷ rest) x fits e =
    subst (λ (y : Option Id × List ℕ). Takes (0 ∷ rest) (origin_bytes y.0) y.1 × IsOrigin y.0) (ok_is (None, rest) x e) (alone 0 rest fits, tt)
origin_takes (suc zero ∷ rest) x fits e =
    let a = bind_ok (id_at rest) (λ id. Ok (Some id.0, id.1)) x e in
    let t = id_takes rest a.0 (behind 1 rest fits) a.1 in
    subst (λ (y : Option Id × List ℕ). Takes (1 ∷ rest) (origin_bytes y.0) y.1 × IsOrigin y.0) (ok_is (Some a.0.0, a.0.1) x a.2) (tagged 1 rest (id_bytes a.0.0) a.0.1 t.0, t.1)
origin_takes (suc (suc b) ∷ rest) x fits e = absurd cc

pub origin_again : (origin : Option Id) (rest : List ℕ) → IsOrigin origin → origin_at (origin_bytes origin ++ rest) ≡ Ok (origin, rest)
unfolding origin_at origin_bytes
origin_again None rest fits = refl
origin_again (Some id) rest fits = rw (id_again id rest fits) refl

pub scalar_takes : (bytes : List ℕ) (x : ℕ × List ℕ) → IsBytes bytes → scalar_at bytes ≡ Ok x → Takes bytes (number_bytes w32 x.0) x.1 × (scalar x.0 ≡ true)
unfolding scalar_at
scalar_takes bytes x fits e =
    let a = bind_ok (number_at w32 bytes) (λ n. cond (scalar n.0) (Ok n) (Err Scalar)) x e in
    let p = passed (scalar a.0.0) Scalar a.0 x a.2 in
    let t = number_takes w32 (2 ^ 32) wide32 bytes a.0 fits a.1 in
    subst (λ (y : ℕ × List ℕ). Takes bytes (number_bytes w32 y.0) y.1 × (scalar y.0 ≡ true)) p.1 (t.0, p.0)

pub scalar_again : (n : ℕ) (rest : List ℕ) → n < 2 ^ 32 → scalar n ≡ true → scalar_at (number_bytes w32 n ++ rest) ≡ Ok (n, rest)
unfolding scalar_at
scalar_again n rest lt is = rw (number_again w32 (2 ^ 32) wide32 n rest lt, is) refl

url_takes : (bytes : List ℕ) (x : List ℕ × List ℕ) → IsBytes bytes → url_at bytes ≡ Ok x → Takes bytes (url_bytes x.0) x.1 × IsUrl x.0
unfolding url_at url_bytes
url_takes bytes x fits e =
    let a = bind_ok (number_at w16 bytes >>= within 1 1024) (λ len. bytes_at len.0 len.1 >>= λ text. cond (is_utf8 text.0) (Ok text) (Err Utf8)) x e in
    let b = bind_ok (bytes_at a.0.0 a.0.1) (λ text. cond (is_utf8 text.0) (Ok text) (Err Utf8)) x a.2 in
    let p = passed (is_utf8 b.0.0) Utf8 b.0 x b.2 in
    let t0 = ranged_takes w16 (2 ^ 16) wide16 1 1024 bytes a.0 fits a.1 in
    let t1 = bytes_take a.0.0 a.0.1 b.0 t0.0.rest_fits b.1 in
    let both = Takes-then bytes (number_bytes w16 a.0.0) a.0.1 b.0.0 b.0.1 t0.0 t1.0 in
    let whole : Takes bytes (number_bytes w16 (length b.0.0) ++ b.0.0) b.0.1 = subst (λ (k : ℕ). Takes bytes (number_bytes w16 k ++ b.0.0) b.0.1) (sym t1.1) both in
    subst (λ (y : List ℕ × List ℕ). Takes bytes (number_bytes w16 (length y.0) ++ y.0) y.1 × IsUrl y.0) p.1
    (whole, record { some = omega (arith, t1.1, t0.1); most = omega (arith, t1.1, t0.2); utf8 = IsUtf8-from_is_utf8 b.0.0 p.0 })

url_again : (text rest : List ℕ) → IsUrl text → url_at (url_bytes text ++ rest) ≡ Ok (text, rest)
unfolding url_at url_bytes
url_again text rest fits =
    ap url_at (append_assoc (number_bytes w16 (length text)) text rest)
    ∙ rw (ranged_again w16 (2 ^ 16) wide16 1 1024 (length text) (text ++ rest) (omega (arith, fits.most)) (omega (arith, fits.some)) fits.most, bytes_again text rest, is_utf8-from_IsUtf8 text fits.utf8) refl

pub mark_takes : (bytes : List ℕ) (x : Mark × List ℕ) → IsBytes bytes → mark_at bytes ≡ Ok x → Takes bytes (mark_bytes x.0) x.1 × IsMark x.0
unfolding mark_at mark_bytes
mark_takes [] x fits e = absurd cc
mark_takes (zero ∷ rest) x fits e = absurd cc
mark_takes (suc zero ∷ rest) x fits e =
    subst (λ (y : Mark × List ℕ). Takes (1 ∷ rest) (mark_bytes y.0) y.1 × IsMark y.0) (ok_is (added.Strong, rest) x e) (alone 1 rest fits, tt)
mark_takes (suc (suc zero) ∷ rest) x fits e =
    subst (λ (y : Mark × List ℕ). Takes (2 ∷ rest) (mark_bytes y.0) y.1 × IsMark y.0) (ok_is (added.Em, rest) x e) (alone 2 rest fits, tt)
mark_takes (suc (suc (suc zero)) ∷ rest) x fits e =
    let a = bind_ok (url_at rest) (λ url. Ok (added.Link url.0, url.1)) x e in
    let t = url_takes rest a.0 (behind 3 rest fits) a.1 in
    subst (λ (y : Mark × List ℕ). Takes (3 ∷ rest) (mark_bytes y.0) y.1 × IsMark y.0) (ok_is (added.Link a.0.0, a.0.1) x a.2) (tagged 3 rest (url_bytes a.0.0) a.0.1 t.0, t.1)
mark_takes (suc (suc (suc (suc zero))) ∷ rest) x fits e =
    let a = bind_ok (number_at w128 rest) (λ id. Ok (added.Comment id.0, id.1)) x e in
    let t = number_takes w128 (2 ^ 128) wide128 rest a.0 (behind 4 rest fits) a.1 in
    subst (λ (y : Mark × List ℕ). Takes (4 ∷ rest) (mark_bytes y.0) y.1 × IsMark y.0) (ok_is (added.Comment a.0.0, a.0.1) x a.2) (tagged 4 rest (number_bytes w128 a.0.0) a.0.1 t.0, t.1)
mark_takes (suc (suc (suc (suc (suc b)))) ∷ rest) x fits e = absurd cc

pub mark_again : (mark : Mark) (rest : List ℕ) → IsMark mark → mark_at (mark_bytes mark ++ rest) ≡ Ok (mark, rest)
unfolding mark_at mark_bytes
mark_again added.Strong rest fits = refl
mark_again added.Em rest fits = refl
mark_again (added.Link url) rest fits = rw (url_again url rest fits) refl
mark_again (added.Comment id) rest fits = rw (number_again w128 (2 ^ 128) wide128 id rest fits) refl

pub key_takes : (bytes : List ℕ) (x : MarkKey × List ℕ) → IsBytes bytes → key_at bytes ≡ Ok x → Takes bytes (key_bytes x.0) x.1 × IsKey x.0
unfolding key_at key_bytes
key_takes [] x fits e = absurd cc
key_takes (zero ∷ rest) x fits e = absurd cc
key_takes (suc zero ∷ rest) x fits e =
    subst (λ (y : MarkKey × List ℕ). Takes (1 ∷ rest) (key_bytes y.0) y.1 × IsKey y.0) (ok_is (key.Strong, rest) x e) (alone 1 rest fits, tt)
key_takes (suc (suc zero) ∷ rest) x fits e =
    subst (λ (y : MarkKey × List ℕ). Takes (2 ∷ rest) (key_bytes y.0) y.1 × IsKey y.0) (ok_is (key.Em, rest) x e) (alone 2 rest fits, tt)
key_takes (suc (suc (suc zero)) ∷ rest) x fits e =
    subst (λ (y : MarkKey × List ℕ). Takes (3 ∷ rest) (key_bytes y.0) y.1 × IsKey y.0) (ok_is (key.Link, rest) x e) (alone 3 rest fits, tt)
key_takes (suc (suc (suc (suc zero))) ∷ rest) x fits e =
    let a = bind_ok (number_at w128 rest) (λ id. Ok (key.Comment id.0, id.1)) x e in
    let t = number_takes w128 (2 ^ 128) wide128 rest a.0 (behind 4 rest fits) a.1 in
    subst (λ (y : MarkKey × List ℕ). Takes (4 ∷ rest) (key_bytes y.0) y.1 × IsKey y.0) (ok_is (key.Comment a.0.0, a.0.1) x a.2) (tagged 4 rest (number_bytes w128 a.0.0) a.0.1 t.0, t.1)
key_takes (suc (suc (suc (suc (suc b)))) ∷ rest) x fits e = absurd cc

pub key_again : (k : MarkKey) (rest : List ℕ) → IsKey k → key_at (key_bytes k ++ rest) ≡ Ok (k, rest)
unfolding key_at key_bytes
key_again key.Strong rest fits = refl
key_again key.Em rest fits = refl
key_again key.Link rest fits = refl
key_again (key.Comment id) rest fits = rw (number_again w128 (2 ^ 128) wide128 id rest fits) refl

start_takes : (bytes : List ℕ) (x : Start × List ℕ) → IsBytes bytes → start_at bytes ≡ Ok x → Takes bytes (start_bytes x.0) x.1 × IsStart x.0
unfolding start_at start_bytes anchor_bytes
start_takes [] x fits e = absurd cc
start_takes (zero ∷ rest) x fits e =
    subst (λ (y : Start × List ℕ). Takes (0 ∷ rest) (start_bytes y.0) y.1 × IsStart y.0) (ok_is (start.OfText, rest) x e) (alone 0 rest fits, tt)
start_takes (suc zero ∷ rest) x fits e =
    let a = bind_ok (id_at rest) (λ id. Ok (start.From (Before id.0), id.1)) x e in
    let t = id_takes rest a.0 (behind 1 rest fits) a.1 in
    subst (λ (y : Start × List ℕ). Takes (1 ∷ rest) (start_bytes y.0) y.1 × IsStart y.0) (ok_is (start.From (Before a.0.0), a.0.1) x a.2) (tagged 1 rest (id_bytes a.0.0) a.0.1 t.0, t.1)
start_takes (suc (suc zero) ∷ rest) x fits e =
    let a = bind_ok (id_at rest) (λ id. Ok (start.From (After id.0), id.1)) x e in
    let t = id_takes rest a.0 (behind 2 rest fits) a.1 in
    subst (λ (y : Start × List ℕ). Takes (2 ∷ rest) (start_bytes y.0) y.1 × IsStart y.0) (ok_is (start.From (After a.0.0), a.0.1) x a.2) (tagged 2 rest (id_bytes a.0.0) a.0.1 t.0, t.1)
start_takes (suc (suc (suc b)) ∷ rest) x fits e = absurd cc

start_again : (s : Start) (rest : List ℕ) → IsStart s → start_at (start_bytes s ++ rest) ≡ Ok (s, rest)
unfolding start_at start_bytes anchor_bytes
start_again start.OfText rest fits = refl
start_again (start.From (Before id)) rest fits = rw (id_again id rest fits) refl
start_again (start.From (After id)) rest fits = rw (id_again id rest fits) refl

end_takes : (bytes : List ℕ) (x : End × List ℕ) → IsBytes bytes → end_at bytes ≡ Ok x → Takes bytes (end_bytes x.0) x.1 × IsEnd x.0
unfolding end_at end_bytes anchor_bytes
end_takes [] x fits e = absurd cc
end_takes (zero ∷ rest) x fits e = absurd cc
end_takes (suc zero ∷ rest) x fits e =
    let a = bind_ok (id_at rest) (λ id. Ok (end.To (Before id.0), id.1)) x e in
    let t = id_takes rest a.0 (behind 1 rest fits) a.1 in
    subst (λ (y : End × List ℕ). Takes (1 ∷ rest) (end_bytes y.0) y.1 × IsEnd y.0) (ok_is (end.To (Before a.0.0), a.0.1) x a.2) (tagged 1 rest (id_bytes a.0.0) a.0.1 t.0, t.1)
end_takes (suc (suc zero) ∷ rest) x fits e =
    let a = bind_ok (id_at rest) (λ id. Ok (end.To (After id.0), id.1)) x e in
    let t = id_takes rest a.0 (behind 2 rest fits) a.1 in
    subst (λ (y : End × List ℕ). Takes (2 ∷ rest) (end_bytes y.0) y.1 × IsEnd y.0) (ok_is (end.To (After a.0.0), a.0.1) x a.2) (tagged 2 rest (id_bytes a.0.0) a.0.1 t.0, t.1)
end_takes (suc (suc (suc zero)) ∷ rest) x fits e =
    subst (λ (y : End × List ℕ). Takes (3 ∷ rest) (end_bytes y.0) y.1 × IsEnd y.0) (ok_is (end.OfText, rest) x e) (alone 3 rest fits, tt)
end_takes (suc (suc (suc (suc b))) ∷ rest) x fits e = absurd cc

end_again : (s : End) (rest : List ℕ) → IsEnd s → end_at (end_bytes s ++ rest) ≡ Ok (s, rest)
unfolding end_at end_bytes anchor_bytes
end_again end.OfText rest fits = refl
end_again (end.To (Before id)) rest fits = rw (id_again id rest fits) refl
end_again (end.To (After id)) rest fits = rw (id_again id rest fits) refl

pub span_takes : (bytes : List ℕ) (x : (Start × End) × List ℕ) → IsBytes bytes → span_at bytes ≡ Ok x → Takes bytes (start_bytes x.0.0 ++ end_bytes x.0.1) x.1 × (IsStart x.0.0 × IsEnd x.0.1)
unfolding span_at
span_takes bytes x fits e =
    let a = bind_ok (start_at bytes) (λ from. end_at from.1 >>= λ to. Ok ((from.0, to.0), to.1)) x e in
    let b = bind_ok (end_at a.0.1) (λ to. Ok ((a.0.0, to.0), to.1)) x a.2 in
    let t0 = start_takes bytes a.0 fits a.1 in
    let t1 = end_takes a.0.1 b.0 t0.0.rest_fits b.1 in
    let both = Takes-then bytes (start_bytes a.0.0) a.0.1 (end_bytes b.0.0) b.0.1 t0.0 t1.0 in
    subst (λ (y : (Start × End) × List ℕ). Takes bytes (start_bytes y.0.0 ++ end_bytes y.0.1) y.1 × (IsStart y.0.0 × IsEnd y.0.1)) (ok_is ((a.0.0, b.0.0), b.0.1) x b.2) (both, (t0.1, t1.1))

pub span_again : (from : Start) (to : End) (rest : List ℕ) → IsStart from → IsEnd to → span_at (start_bytes from ++ (end_bytes to ++ rest)) ≡ Ok ((from, to), rest)
unfolding span_at
span_again from to rest starts ends =
    rw (start_again from (end_bytes to ++ rest) starts, end_again to rest ends) refl
