-- Records that are taken one after another.
use Rattle.std.proofs.Common.{◌≡◌, ℕ, zero, suc, ◌+◌, ◌-◌, ◌<◌, ◌≤◌, true, false, cond, eqb, List, [], ◌∷◌, ◌++◌, length, Result, Ok, Err}
use Rattle.std.proofs.Common.{refl, sym, ap, ◌∙◌, append_assoc, arith}
use Rattle.std.specs.Int.{w16, is_in_range}
use Rattle.std.proofs.lemmas.List.{append-nil}
use Rattle.std.proofs.lemmas.Bool.Decides.{nat_tests}
use Rattle.change_codec.specs.Reading.{number_at}
use Rattle.op_pieces.specs.Pieces.{Run}
use Rattle.causal_sync.specs.declared.link_error.LinkError.{LinkError}
use Rattle.causal_sync.specs.declared.link_error.LinkError.TheVariants.{BadFrame}
use Rattle.causal_sync.specs.Reading.{◌>>=◌, or_fault, record_at, records_at, count_at}
use Rattle.causal_sync.proofs.Steps.{bind_ok, passed, ok_is}

-- pieces in front of those that are read
abbrev pub with_front : List Run → Result (List Run) LinkError → Result (List Run) LinkError
with_front front (Ok ps) = Ok (front ++ ps)
with_front front (Err e) = Err e

-- one more in front
front_more : (front : List Run) (p : Run) (r : Result (List Run) LinkError) → with_front front (r >>= λ others. Ok (p ∷ others)) ≡ with_front (front ++ p ∷ []) r
front_more front p (Ok ps) = ap (λ (x : List Run). Ok x) (sym (append_assoc front (p ∷ []) ps))
front_more front p (Err e) = refl

-- a record was taken
pub records_on : (front : List Run) (count i : ℕ) (bytes : List ℕ) (p : Run) (after : List ℕ) (total : Result (List Run) LinkError) → i < count → record_at bytes ≡ Ok (p, after)
    → with_front front (records_at (count - i) bytes) ≡ total → with_front (front ++ p ∷ []) (records_at (count - (i + 1)) after) ≡ total
unfolding records_at
records_on front count i bytes p after total lt read e =
    let more : count - i ≡ suc (count - (i + 1)) = omega (arith, lt) in
    sym (front_more front p (records_at (count - (i + 1)) after)) ∙ rw (more, read) at e

-- a record was refused
pub record_fails : (front : List Run) (count i : ℕ) (bytes : List ℕ) (f : LinkError) (total : Result (List Run) LinkError) → i < count → record_at bytes ≡ Err f
    → with_front front (records_at (count - i) bytes) ≡ total → total ≡ Err f
unfolding records_at
record_fails front count i bytes f total lt read e =
    let more : count - i ≡ suc (count - (i + 1)) = omega (arith, lt) in
    sym (rw (more, read) at e)

-- all were taken
records_end : (front : List Run) (count i : ℕ) (bytes : List ℕ) (total : Result (List Run) LinkError) → count ≤ i
    → with_front front (records_at (count - i) bytes) ≡ total → with_front front (cond (eqb (length bytes) 0) (Ok []) (Err BadFrame)) ≡ total
unfolding records_at
records_end front count i bytes total le e =
    let none : count - i ≡ 0 = omega (arith, le) in
    rw none at e

-- nothing in front
pub records_begin : (r : Result (List Run) LinkError) → with_front [] r ≡ r
records_begin (Ok ps) = refl
records_begin (Err e) = refl

-- as many as were asked for
pub records_length : (n : ℕ) (bytes : List ℕ) (ps : List Run) → records_at n bytes ≡ Ok ps → length ps ≡ n
unfolding records_at
records_length zero bytes ps e =
    let p = passed (eqb (length bytes) 0) BadFrame (Ok []) ps e in
    ap (λ (qs : List Run). length qs) (sym (ok_is [] ps p.1))
records_length (suc n) bytes ps e =
    let a = bind_ok (record_at bytes) (λ first. records_at n first.1 >>= λ others. Ok (first.0 ∷ others)) ps e in
    let b = bind_ok (records_at n a.0.1) (λ others. Ok (a.0.0 ∷ others)) ps a.2 in
    ap (λ (qs : List Run). length qs) (sym (ok_is (a.0.0 ∷ b.0) ps b.2)) ∙ ap suc (records_length n a.0.1 b.0 b.1)

-- from 1 to 64
pub count_range : (payload : List ℕ) (x : ℕ × List ℕ) → count_at payload ≡ Ok x → (1 ≤ x.0) × (x.0 ≤ 64)
unfolding count_at
count_range payload x e =
    let c = bind_ok (or_fault BadFrame (number_at w16 payload)) (λ count. cond (is_in_range 1 64 count.0) (Ok count) (Err BadFrame)) x e in
    let p = passed (is_in_range 1 64 c.0.0) BadFrame (Ok c.0) x c.2 in
    let same : c.0 ≡ x = ok_is c.0 x p.1 in
    let range : is_in_range 1 64 x.0 ≡ true = rw (← same) p.0 in
    (grind (arith, nat_tests), grind (arith, nat_tests))

-- bytes are left behind them
pub records_left : (front : List Run) (count i : ℕ) (bytes : List ℕ) (total : Result (List Run) LinkError) → count ≤ i → eqb (length bytes) 0 ≡ false
    → with_front front (records_at (count - i) bytes) ≡ total → total ≡ Err BadFrame
records_left front count i bytes total le test e = sym (records_end front count i bytes total le e) ∙ rw test refl

-- nothing is left behind them
pub records_all : (front : List Run) (count i : ℕ) (bytes : List ℕ) (total : Result (List Run) LinkError) → count ≤ i → eqb (length bytes) 0 ≡ true
    → with_front front (records_at (count - i) bytes) ≡ total → total ≡ Ok front
records_all front count i bytes total le test e =
    sym (records_end front count i bytes total le e) ∙ rw test (ap (λ (ps : List Run). Ok ps) (append-nil front))
