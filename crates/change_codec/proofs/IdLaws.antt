-- Ids and clocks: what is read is spelled so, and what is spelled so is read.
use Rattle.std.proofs.Common.{◌≡◌, ℕ, zero, suc, ◌^◌, ◌<◌, ◌≤◌, true, false, cond, ltb, eqb, List}
use Rattle.std.proofs.Common.{[], ◌∷◌, ◌++◌, length, Ok, Err, refl, sym, ap, subst, ◌∙◌}
use Rattle.std.proofs.Common.{append_assoc, arith}
use Rattle.std.specs.Int.{Width, w64, w128, is_in_range}
use Rattle.std.proofs.lemmas.Bool.Decides.{nat_tests}
use Rattle.op_ids.specs.Id.{Id}
use Rattle.op_ids.specs.Clock.{is_rising_above, is_clock}
use Rattle.change_codec.specs.declared.codec_error.CodecError.TheVariants.{Number, Order}
use Rattle.change_codec.specs.Spelling.{number_bytes, id_bytes, entry_bytes, entries_bytes, deps_bytes}
use Rattle.change_codec.specs.Reading.{◌>>=◌, within, byte_at, number_at, counter_at, replica_at, id_at, entry_at, entries_at, count_at, deps_at}
use Rattle.change_codec.specs.Fits.{IsId, HaveSixteen}
use Rattle.change_codec.proofs.Steps.{IsBytes, bind_ok, guard_ok, passed, ok_is, Takes, Takes-then}
use Rattle.change_codec.proofs.Numbers.{IsWide, wide64, wide128, number_takes, number_again}
use Rattle.change_codec.proofs.Clocks.{in_range, entries_rise, count_limit, made_clock}

-- a number in a range
pub ranged_takes : (w : Width) (limit : ℕ) (wide : IsWide w limit) (low high : ℕ) (bytes : List ℕ) (x : ℕ × List ℕ) → IsBytes bytes → (number_at w bytes >>= within low high) ≡ Ok x → Takes bytes (number_bytes w x.0) x.1 × (low ≤ x.0) × (x.0 ≤ high)
ranged_takes w limit wide low high bytes x fits e =
    let a = bind_ok (number_at w bytes) (within low high) x e in
    let range = in_range low high a.0 x a.2 in
    let read : number_at w bytes ≡ Ok x = a.1 ∙ ap (λ (n : ℕ × List ℕ). Ok n) range.0 in
    let t = number_takes w limit wide bytes x fits read in
    (t.0, range.1, range.2)

pub ranged_again : (w : Width) (limit : ℕ) (wide : IsWide w limit) (low high n : ℕ) (rest : List ℕ) → n < limit → low ≤ n → n ≤ high → (number_at w (number_bytes w n ++ rest) >>= within low high) ≡ Ok (n, rest)
ranged_again w limit wide low high n rest lt some most =
    let test : is_in_range low high n ≡ true = grind (arith, nat_tests) in
    rw (number_again w limit wide n rest lt, test) refl

counter_takes : (bytes : List ℕ) (x : ℕ × List ℕ) → IsBytes bytes → counter_at bytes ≡ Ok x → Takes bytes (number_bytes w64 x.0) x.1 × (1 ≤ x.0) × (x.0 ≤ 281474976710655)
unfolding counter_at
counter_takes bytes x fits e = ranged_takes w64 (2 ^ 64) wide64 1 281474976710655 bytes x fits e

counter_again : (n : ℕ) (rest : List ℕ) → 0 < n → n ≤ 281474976710655 → counter_at (number_bytes w64 n ++ rest) ≡ Ok (n, rest)
unfolding counter_at
counter_again n rest some most = ranged_again w64 (2 ^ 64) wide64 1 281474976710655 n rest (omega arith) (omega arith) (omega arith)

pub replica_takes : (bytes : List ℕ) (x : ℕ × List ℕ) → IsBytes bytes → replica_at bytes ≡ Ok x → Takes bytes (number_bytes w128 x.0) x.1 × (0 < x.0) × (x.0 < 2 ^ 128)
unfolding replica_at
replica_takes bytes x fits e =
    let a = bind_ok (number_at w128 bytes) (λ n. cond (eqb n.0 0) (Err Number) (Ok n)) x e in
    let g = guard_ok (eqb a.0.0 0) Number a.0 x a.2 in
    let read : number_at w128 bytes ≡ Ok x = a.1 ∙ ap (λ (n : ℕ × List ℕ). Ok n) g.1 in
    let t = number_takes w128 (2 ^ 128) wide128 bytes x fits read in
    let other : eqb x.0 0 ≡ false = subst (λ (n : ℕ × List ℕ). eqb n.0 0 ≡ false) g.1 g.0 in
    let above : 0 < x.0 = grind (arith, nat_tests) in
    (t.0, above, t.1)

pub replica_again : (n : ℕ) (rest : List ℕ) → 0 < n → n < 2 ^ 128 → replica_at (number_bytes w128 n ++ rest) ≡ Ok (n, rest)
unfolding replica_at
replica_again n rest some most =
    let test : eqb n 0 ≡ false = grind (arith, nat_tests) in
    rw (number_again w128 (2 ^ 128) wide128 n rest most, test) refl

pub id_takes : (bytes : List ℕ) (x : Id × List ℕ) → IsBytes bytes → id_at bytes ≡ Ok x → Takes bytes (id_bytes x.0) x.1 × IsId x.0
unfolding id_at id_bytes
id_takes bytes x fits e =
    let a = bind_ok (counter_at bytes) (λ counter. replica_at counter.1 >>= λ replica. Ok (record { counter = counter.0; replica = replica.0 }, replica.1)) x e in
    let b = bind_ok (replica_at a.0.1) (λ replica. Ok (record { counter = a.0.0; replica = replica.0 }, replica.1)) x a.2 in
    let t0 = counter_takes bytes a.0 fits a.1 in
    let t1 = replica_takes a.0.1 b.0 t0.0.rest_fits b.1 in
    let both = Takes-then bytes (number_bytes w64 a.0.0) a.0.1 (number_bytes w128 b.0.0) b.0.1 t0.0 t1.0 in
    let made : Id × List ℕ = (record { counter = a.0.0; replica = b.0.0 }, b.0.1) in
    subst (λ (y : Id × List ℕ). Takes bytes (number_bytes w64 y.0.counter ++ number_bytes w128 y.0.replica) y.1 × IsId y.0) (ok_is made x b.2)
    (both, record { above_zero = omega (arith, t0.1); in_range = omega (arith, t0.2); not_nil = t1.1; sixteen = t1.2 })

pub id_again : (id : Id) (rest : List ℕ) → IsId id → id_at (id_bytes id ++ rest) ≡ Ok (id, rest)
unfolding id_at id_bytes
id_again id rest fits =
    ap id_at (append_assoc (number_bytes w64 id.counter) (number_bytes w128 id.replica) rest)
    ∙ rw (counter_again id.counter (number_bytes w128 id.replica ++ rest) fits.above_zero fits.in_range, replica_again id.replica rest fits.not_nil fits.sixteen) refl

entry_takes : (low : ℕ) (bytes : List ℕ) (x : (ℕ × ℕ) × List ℕ) → IsBytes bytes → entry_at low bytes ≡ Ok x → Takes bytes (entry_bytes x.0) x.1 × (x.0.0 < 2 ^ 128)
unfolding entry_at entry_bytes
entry_takes low bytes x fits e =
    let a = bind_ok (replica_at bytes) (λ r. cond (ltb low r.0) (Ok r) (Err Order) >>= λ above. number_at w64 above.1 >>= within 1 16777216 >>= λ count. Ok ((above.0, count.0), count.1)) x e in
    let b = bind_ok (cond (ltb low a.0.0) (Ok a.0) (Err Order)) (λ above. number_at w64 above.1 >>= within 1 16777216 >>= λ count. Ok ((above.0, count.0), count.1)) x a.2 in
    let c = bind_ok (number_at w64 b.0.1 >>= within 1 16777216) (λ count. Ok ((b.0.0, count.0), count.1)) x b.2 in
    let p = passed (ltb low a.0.0) Order a.0 b.0 b.1 in
    let read : replica_at bytes ≡ Ok b.0 = a.1 ∙ ap (λ (n : ℕ × List ℕ). Ok n) p.1 in
    let t0 = replica_takes bytes b.0 fits read in
    let t1 = ranged_takes w64 (2 ^ 64) wide64 1 16777216 b.0.1 c.0 t0.0.rest_fits c.1 in
    let both = Takes-then bytes (number_bytes w128 b.0.0) b.0.1 (number_bytes w64 c.0.0) c.0.1 t0.0 t1.0 in
    subst (λ (y : (ℕ × ℕ) × List ℕ). Takes bytes (number_bytes w128 y.0.0 ++ number_bytes w64 y.0.1) y.1 × (y.0.0 < 2 ^ 128)) (ok_is ((b.0.0, c.0.0), c.0.1) x c.2) (both, t0.2)

entry_again : (low : ℕ) (e : ℕ × ℕ) (rest : List ℕ) → low < e.0 → e.0 < 2 ^ 128 → 1 ≤ e.1 → e.1 ≤ 16777216 → entry_at low (entry_bytes e ++ rest) ≡ Ok (e, rest)
unfolding entry_at entry_bytes
entry_again low e rest above sixteen some most =
    let test : ltb low e.0 ≡ true = grind (arith, nat_tests) in
    ap (entry_at low) (append_assoc (number_bytes w128 e.0) (number_bytes w64 e.1) rest)
    ∙ rw (replica_again e.0 (number_bytes w64 e.1 ++ rest) (omega arith) sixteen, test, ranged_again w64 (2 ^ 64) wide64 1 16777216 e.1 rest (omega arith) some most) refl

entries_take : (n low : ℕ) (bytes : List ℕ) (x : List (ℕ × ℕ) × List ℕ) → IsBytes bytes → entries_at n low bytes ≡ Ok x → Takes bytes (entries_bytes x.0) x.1 × HaveSixteen x.0
unfolding entries_at
entries_take zero low bytes x fits e =
    subst (λ (y : List (ℕ × ℕ) × List ℕ). Takes bytes (entries_bytes y.0) y.1 × HaveSixteen y.0) (ok_is ([], bytes) x e) (record { parts = refl; rest_fits = fits }, tt)
entries_take (suc n) low bytes x fits e =
    let a = bind_ok (entry_at low bytes) (λ first. entries_at n first.0.0 first.1 >>= λ others. Ok (first.0 ∷ others.0, others.1)) x e in
    let b = bind_ok (entries_at n a.0.0.0 a.0.1) (λ others. Ok (a.0.0 ∷ others.0, others.1)) x a.2 in
    let t0 = entry_takes low bytes a.0 fits a.1 in
    let t1 = entries_take n a.0.0.0 a.0.1 b.0 t0.0.rest_fits b.1 in
    let both = Takes-then bytes (entry_bytes a.0.0) a.0.1 (entries_bytes b.0.0) b.0.1 t0.0 t1.0 in
    subst (λ (y : List (ℕ × ℕ) × List ℕ). Takes bytes (entries_bytes y.0) y.1 × HaveSixteen y.0) (ok_is (a.0.0 ∷ b.0.0, b.0.1) x b.2) (both, (t0.1, t1.1))

entries_again : (es : List (ℕ × ℕ)) (low : ℕ) (rest : List ℕ) → is_rising_above low es ≡ true → HaveSixteen es → entries_at (length es) low (entries_bytes es ++ rest) ≡ Ok (es, rest)
unfolding entries_at
entries_again [] low rest rising sixteen = refl
entries_again (e ∷ es) low rest rising sixteen =
    let above : low < e.0 = grind (arith, nat_tests) in
    let some : 1 ≤ e.1 = grind (arith, nat_tests) in
    let most : e.1 ≤ 16777216 = grind (arith, nat_tests) in
    let others : is_rising_above e.0 es ≡ true = grind (arith, nat_tests) in
    ap (entries_at (suc (length es)) low) (append_assoc (entry_bytes e) (entries_bytes es) rest)
    ∙ rw (entry_again low e (entries_bytes es ++ rest) above sixteen.0 some most, entries_again es e.0 rest others sixteen.1) refl

count_takes : (bytes : List ℕ) (x : ℕ × List ℕ) → IsBytes bytes → count_at bytes ≡ Ok x → Takes bytes (x.0 ∷ []) x.1
unfolding count_at byte_at
count_takes [] x fits e = absurd cc
count_takes (b ∷ rest) x fits e =
    let range = in_range 0 16 (b, rest) x e in
    subst (λ (y : ℕ × List ℕ). Takes (b ∷ rest) (y.0 ∷ []) y.1) range.0 (record { parts = refl; rest_fits = λ i. fits (suc i) })

pub deps_take : (bytes : List ℕ) (x : List (ℕ × ℕ) × List ℕ) → IsBytes bytes → deps_at bytes ≡ Ok x → Takes bytes (deps_bytes x.0) x.1 × (is_clock x.0 ≡ true) × HaveSixteen x.0
unfolding deps_at deps_bytes
deps_take bytes x fits e =
    let a = bind_ok (count_at bytes) (λ count. entries_at count.0 0 count.1) x e in
    let t0 = count_takes bytes a.0 fits a.1 in
    let t1 = entries_take a.0.0 0 a.0.1 x t0.rest_fits a.2 in
    let rise = entries_rise a.0.0 0 a.0.1 x a.2 in
    let both = Takes-then bytes (a.0.0 ∷ []) a.0.1 (entries_bytes x.0) x.1 t0 t1.0 in
    let whole : Takes bytes (length x.0 ∷ entries_bytes x.0) x.1 = subst (λ (k : ℕ). Takes bytes (k ∷ entries_bytes x.0) x.1) (sym rise.1) both in
    (whole, made_clock x.0 rise.0 (omega (arith, rise.1, count_limit bytes a.0 a.1)), t1.1)

pub deps_again : (es : List (ℕ × ℕ)) (rest : List ℕ) → is_clock es ≡ true → HaveSixteen es → deps_at (deps_bytes es ++ rest) ≡ Ok (es, rest)
unfolding deps_at deps_bytes count_at byte_at
deps_again es rest clock sixteen =
    let rising : is_rising_above 0 es ≡ true = grind (arith, nat_tests) in
    let most : length es ≤ 16 = grind (arith, nat_tests) in
    let test : is_in_range 0 16 (length es) ≡ true = grind (arith, nat_tests) in
    rw (test, entries_again es 0 rest rising sixteen) refl
