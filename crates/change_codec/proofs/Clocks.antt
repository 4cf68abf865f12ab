-- What is read as deps is a clock.
use Rattle.std.proofs.Common.{Bor, ◌≡◌, ℕ, zero, suc, ◌<◌, ◌≤◌, true, cond, ltb, List, [], ◌∷◌, length, Result, Ok, Err, refl, sym, ap, subst, ◌∙◌, arith}
use Rattle.std.specs.Prelude.{IsOk}
use Rattle.std.specs.Int.{w64, is_in_range}
use Rattle.std.proofs.lemmas.Bool.{ltb-true}
use Rattle.std.proofs.lemmas.Bool.Decides.{nat_tests}
use Rattle.op_ids.specs.Clock.{is_rising_above, is_clock}
use Rattle.change_codec.specs.declared.codec_error.CodecError.{CodecError}
use Rattle.change_codec.specs.declared.codec_error.CodecError.TheVariants.{Number, Order}
use Rattle.change_codec.specs.Reading.{◌>>=◌, Reads, only_rest, only_value, within, byte_at, number_at, replica_at, count_at, entry_at, entries_at, deps_at}
use Rattle.change_codec.specs.Lent.{deps_of, found_deps}
use Rattle.change_codec.proofs.Steps.{bind_ok, passed, done, ok_is}

-- a number that was kept is in its range
pub in_range : (low high : ℕ) (n : ℕ × List ℕ) (x : ℕ × List ℕ) → within low high n ≡ Ok x → (n ≡ x) × (low ≤ x.0) × (x.0 ≤ high)
in_range low high n x e =
    let p = passed (is_in_range low high n.0) Number n x e in
    let test : is_in_range low high x.0 ≡ true = subst (λ (m : ℕ × List ℕ). is_in_range low high m.0 ≡ true) p.1 p.0 in
    (p.1, grind (arith, nat_tests), grind (arith, nat_tests))

-- an entry: its two numbers, and the rules that they keep
pub record Entry (low : ℕ) (bytes : List ℕ) (e : ℕ × ℕ) (after : List ℕ) : Type 0 where
  pub mid : List ℕ
  pub replica : replica_at bytes ≡ Ok (e.0, mid)
  pub count : number_at w64 mid ≡ Ok (e.1, after)
  pub above : low < e.0
  pub some : 1 ≤ e.1
  pub most : e.1 ≤ 16777216

pub entry_parts : (low : ℕ) (bytes : List ℕ) (x : (ℕ × ℕ) × List ℕ) → entry_at low bytes ≡ Ok x → Entry low bytes x.0 x.1
unfolding entry_at
entry_parts low bytes x e =
    let a = bind_ok (replica_at bytes) (λ r. cond (ltb low r.0) (Ok r) (Err Order) >>= λ above. number_at w64 above.1 >>= within 1 16777216 >>= λ count. Ok ((above.0, count.0), count.1)) x e in
    let b = bind_ok (cond (ltb low a.0.0) (Ok a.0) (Err Order)) (λ above. number_at w64 above.1 >>= within 1 16777216 >>= λ count. Ok ((above.0, count.0), count.1)) x a.2 in
    let c = bind_ok (number_at w64 b.0.1 >>= within 1 16777216) (λ count. Ok ((b.0.0, count.0), count.1)) x b.2 in
    let n = bind_ok (number_at w64 b.0.1) (within 1 16777216) c.0 c.1 in
    let range = in_range 1 16777216 n.0 c.0 n.2 in
    let p = passed (ltb low a.0.0) Order a.0 b.0 b.1 in
    let above : low < b.0.0 = subst (λ (m : ℕ × List ℕ). low < m.0) p.1 (ltb-true _ _ p.0) in
    subst (λ (y : (ℕ × ℕ) × List ℕ). Entry low bytes y.0 y.1) (ok_is ((b.0.0, c.0.0), c.0.1) x c.2)
    (record {
      mid = b.0.1;
      replica = a.1 ∙ ap (λ (r : ℕ × List ℕ). Ok r) p.1;
      count = n.1 ∙ ap (λ (r : ℕ × List ℕ). Ok r) range.0;
      above = above;
      some = range.1;
      most = range.2;
    })

-- the entries rise, and there are as many as were asked for
pub entries_rise : (n low : ℕ) (bytes : List ℕ) (x : List (ℕ × ℕ) × List ℕ) → entries_at n low bytes ≡ Ok x → (is_rising_above low x.0 ≡ true) × (length x.0 ≡ n)
unfolding entries_at
entries_rise zero low bytes x e =
    subst (λ (y : List (ℕ × ℕ) × List ℕ). (is_rising_above low y.0 ≡ true) × (length y.0 ≡ 0)) (ok_is ([], bytes) x e) (refl, refl)
entries_rise (suc n) low bytes x e =
    let a = bind_ok (entry_at low bytes) (λ first. entries_at n first.0.0 first.1 >>= λ others. Ok (first.0 ∷ others.0, others.1)) x e in
    let b = bind_ok (entries_at n a.0.0.0 a.0.1) (λ others. Ok (a.0.0 ∷ others.0, others.1)) x a.2 in
    let first = entry_parts low bytes a.0 a.1 in
    let others = entries_rise n a.0.0.0 a.0.1 b.0 b.1 in
    let above = first.above in
    let some = first.some in
    let most = first.most in
    let rest = others.0 in
    let rising : is_rising_above low (a.0.0 ∷ b.0.0) ≡ true = grind (arith, nat_tests) in
    subst (λ (y : List (ℕ × ℕ) × List ℕ). (is_rising_above low y.0 ≡ true) × (length y.0 ≡ suc n)) (ok_is (a.0.0 ∷ b.0.0, b.0.1) x b.2) (rising, ap suc others.1)

-- the number of entries is at most 16
pub count_limit : (bytes : List ℕ) (x : ℕ × List ℕ) → count_at bytes ≡ Ok x → x.0 ≤ 16
unfolding count_at
count_limit bytes x e =
    let a = bind_ok (byte_at bytes) (within 0 16) x e in
    let range = in_range 0 16 a.0 x a.2 in
    range.2

-- at most 16 entries that rise are a clock's
pub made_clock : (es : List (ℕ × ℕ)) → is_rising_above 0 es ≡ true → length es ≤ 16 → is_clock es ≡ true
made_clock es rising most = grind (arith, nat_tests)

-- the value and the rest of a field that was read
from_value : {A : Type 0} (read : Result (A × List ℕ) CodecError) (value : A) → only_value read ≡ Ok value → (rest : List ℕ) × (read ≡ Ok (value, rest))
from_value {A} (Ok x) value e = (x.1, ap (λ (a : A). done (a, x.1)) (ok_is x.0 value e))
from_value (Err f) value e = absurd cc

from_rest : {A : Type 0} (read : Result (A × List ℕ) CodecError) (rest : List ℕ) → only_rest read ≡ Ok rest → (value : A) × (read ≡ Ok (value, rest))
from_rest (Ok x) rest e = (x.0, ap (λ (r : List ℕ). done (x.0, r)) (ok_is x.1 rest e))
from_rest (Err f) rest e = absurd cc

from_fault : {A : Type 0} (read : Result (A × List ℕ) CodecError) (fault : CodecError) → only_rest read ≡ Err fault → read ≡ Err fault
from_fault (Ok x) fault e = absurd cc
from_fault (Err f) fault e = cc

-- the entries that were collected are a clock's
pub collected_clock : (bytes : List ℕ) (count : ℕ) (rest : List ℕ) (es : List (ℕ × ℕ)) → count_at bytes ≡ Ok (count, rest) → only_value (entries_at count 0 rest) ≡ Ok es → is_clock es ≡ true
collected_clock bytes count rest es number read =
    let whole = from_value (entries_at count 0 rest) es read in
    let rise = entries_rise count 0 rest (es, whole.0) whole.1 in
    made_clock es rise.0 (omega (arith, rise.1, count_limit bytes (count, rest) number))

-- the deps that were read are those that the bytes begin with
deps_are : (bytes : List ℕ) (es : List (ℕ × ℕ)) (end : List ℕ) → deps_at bytes ≡ Ok (es, end) → deps_of bytes ≡ es
unfolding deps_of
deps_are bytes es end read = ap found_deps read

-- and those are the deps
pub collected_deps : (bytes : List ℕ) (count : ℕ) (rest : List ℕ) (es : List (ℕ × ℕ)) → count_at bytes ≡ Ok (count, rest) → only_value (entries_at count 0 rest) ≡ Ok es → deps_of bytes ≡ es
unfolding deps_at
collected_deps bytes count rest es number read =
    let whole = from_value (entries_at count 0 rest) es read in
    let deps : deps_at bytes ≡ Ok (es, whole.0) = rw number whole.1 in
    deps_are bytes es whole.0 deps

from_no_value : {A : Type 0} (read : Result (A × List ℕ) CodecError) (fault : CodecError) → only_value read ≡ Err fault → read ≡ Err fault
from_no_value (Ok x) fault e = absurd cc
from_no_value (Err f) fault e = cc

-- what is read without a fault has none
no_fault : {A : Type 0} (read : Result A CodecError) (fault : CodecError) → IsOk read → read ≡ Err fault → ⊥
no_fault (Ok x) fault ok e = cc
no_fault (Err f) fault ok e = cc

-- without a fault among them none comes from a second reading
pub collect_is_ok : (bytes : List ℕ) (count : ℕ) (rest : List ℕ) (fault : CodecError) → IsOk (deps_at bytes) → count_at bytes ≡ Ok (count, rest) → only_value (entries_at count 0 rest) ≡ Err fault → ⊥
unfolding deps_at
collect_is_ok bytes count rest fault ok number read =
    let faulty : deps_at bytes ≡ Err fault = rw number (from_no_value (entries_at count 0 rest) fault read) in
    no_fault (deps_at bytes) fault ok faulty

pub count_is_ok : (bytes : List ℕ) (fault : CodecError) → IsOk (deps_at bytes) → count_at bytes ≡ Err fault → ⊥
unfolding deps_at
count_is_ok bytes fault ok number =
    let faulty : deps_at bytes ≡ Err fault = rw number refl in
    no_fault (deps_at bytes) fault ok faulty

pub count_faulty : (bytes : List ℕ) (fault : CodecError) → count_at bytes ≡ Err fault → deps_at bytes ≡ Err fault
unfolding deps_at
count_faulty bytes fault number = rw number refl

-- where the deps end, and what they are
pub skipped : (bytes : List ℕ) (count : ℕ) (rest : List ℕ) (r : Result (Bor (List ℕ)) CodecError) → count_at bytes ≡ Ok (count, rest) → Reads (λ x. x.now) r (only_rest (entries_at count 0 rest))
    → Reads (λ x. (deps_of bytes, x.now)) r (deps_at bytes)
unfolding deps_at
skipped bytes count rest (Ok end) number read =
    let whole = from_rest (entries_at count 0 rest) end.now read in
    let deps : deps_at bytes ≡ Ok (whole.0, end.now) = rw number whole.1 in
    deps ∙ ap (λ (es : List (ℕ × ℕ)). done (es, end.now)) (sym (deps_are bytes whole.0 end.now deps))
skipped bytes count rest (Err fault) number read = rw number (from_fault (entries_at count 0 rest) fault read)

-- no entries are no deps
pub no_deps : (bytes rest : List ℕ) → count_at bytes ≡ Ok (0, rest) → deps_of bytes ≡ []
unfolding entries_at
no_deps bytes rest number = collected_deps bytes 0 rest [] number refl

-- and some entries are some
some_entries : (bytes rest : List ℕ) (count : ℕ) (read : Result (List (ℕ × ℕ) × List ℕ) CodecError) → entries_at count 0 rest ≡ read → IsOk read → 0 < count
    → found_deps read ≡ [] → ⊥
some_entries bytes rest count (Ok x) is ok some none =
    let rise = entries_rise count 0 rest x is in
    omega (arith, rise.1, ap (λ (es : List (ℕ × ℕ)). length es) none)
some_entries bytes rest count (Err f) is ok some none = cc

pub some_deps : (bytes : List ℕ) (count : ℕ) (rest : List ℕ) → count_at bytes ≡ Ok (count, rest) → IsOk (deps_at bytes) → 0 < count → deps_of bytes ≡ [] → ⊥
unfolding deps_of deps_at
some_deps bytes count rest number ok some none =
    some_entries bytes rest count (entries_at count 0 rest) refl (rw number at ok) some (rw number at none)
