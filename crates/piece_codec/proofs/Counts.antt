-- What deps count of one replica, read where they lie.
use Rattle.std.proofs.Common.{◌≡◌, ℕ, zero, suc, ◌-◌, ◌<◌, ◌≤◌, true, false, eqb, List, [], ◌∷◌, length, get_or, take, drop, Result, Ok, Err, refl}
use Rattle.std.proofs.Common.{sym, ap, subst, ◌∙◌, arith}
use Rattle.std.specs.Prelude.{IsOk}
use Rattle.std.proofs.lemmas.List.{length-drop, take_all}
use Rattle.op_ids.specs.Clock.{count_of, is_clock}
use Rattle.change_codec.specs.declared.codec_error.CodecError.{CodecError}
use Rattle.change_codec.specs.Lent.{deps_of, found_deps}
use Rattle.change_codec.specs.Reading.{◌>>=◌, within, byte_at, entry_at, entries_at, count_at, deps_at}
use Rattle.piece_codec.specs.Reading.{pair_at}
use Rattle.change_codec.proofs.Steps.{bind_ok, ok_is}
use Rattle.change_codec.proofs.Clocks.{Entry, entry_parts, in_range, entries_rise, made_clock}

-- some entries: the first one, and those behind it
record Entries (n low : ℕ) (bytes : List ℕ) (es : List (ℕ × ℕ)) (end : List ℕ) : Type 0 where
  first : ℕ × ℕ
  others : List (ℕ × ℕ)
  after : List ℕ
  parts : Entry low bytes first after
  behind : entries_at n first.0 after ≡ Ok (others, end)
  are : es ≡ first ∷ others

entries_parts : (n low : ℕ) (bytes : List ℕ) (x : List (ℕ × ℕ) × List ℕ) → entries_at (suc n) low bytes ≡ Ok x → Entries n low bytes x.0 x.1
unfolding entries_at
entries_parts n low bytes x e =
    let a = bind_ok (entry_at low bytes) (λ first. entries_at n first.0.0 first.1 >>= λ others. Ok (first.0 ∷ others.0, others.1)) x e in
    let b = bind_ok (entries_at n a.0.0.0 a.0.1) (λ others. Ok (a.0.0 ∷ others.0, others.1)) x a.2 in
    subst (λ (y : List (ℕ × ℕ) × List ℕ). Entries n low bytes y.0 y.1) (ok_is (a.0.0 ∷ b.0.0, b.0.1) x b.2)
    (record { first = a.0.0; others = b.0.0; after = a.0.1; parts = entry_parts low bytes a.0 a.1; behind = b.1; are = refl })

-- none are left
pub none_left : (n low r : ℕ) (bytes : List ℕ) (es : List (ℕ × ℕ)) (end : List ℕ) → n ≡ 0 → entries_at n low bytes ≡ Ok (es, end) → 0 ≡ count_of es r
unfolding entries_at
none_left zero low r bytes es end none e = ap (λ (y : List (ℕ × ℕ) × List ℕ). count_of y.0 r) (ok_is ([], bytes) (es, end) e)
none_left (suc n) low r bytes es end none e = absurd (omega arith)

-- what an entry says
pair_read : (low : ℕ) (bytes : List ℕ) (e : ℕ × ℕ) (after : List ℕ) → Entry low bytes e after → pair_at bytes ≡ Ok (e, after)
unfolding pair_at
pair_read low bytes e after parts = rw (parts.replica, parts.count) refl

-- the first of some entries says something
pub some_pair : (n low : ℕ) (bytes : List ℕ) (es : List (ℕ × ℕ)) (end : List ℕ) (f : CodecError) → 0 < n → pair_at bytes ≡ Err f → entries_at n low bytes ≡ Ok (es, end) → ⊥
some_pair zero low bytes es end f some fault e = absurd (omega arith)
some_pair (suc n) low bytes es end f some fault e =
    let p = entries_parts n low bytes (es, end) e in
    let read = pair_read low bytes p.first p.after p.parts in
    cc

-- the first entry is what was read
record First (n : ℕ) (es : List (ℕ × ℕ)) (end : List ℕ) (entry : ℕ × ℕ) (after : List ℕ) : Type 0 where
  others : List (ℕ × ℕ)
  are : es ≡ entry ∷ others
  behind : entries_at n entry.0 after ≡ Ok (others, end)

first_read : (n low : ℕ) (bytes : List ℕ) (es : List (ℕ × ℕ)) (end : List ℕ) (entry : ℕ × ℕ) (after : List ℕ)
    → pair_at bytes ≡ Ok (entry, after) → entries_at (suc n) low bytes ≡ Ok (es, end) → First n es end entry after
first_read n low bytes es end entry after pair e =
    let p = entries_parts n low bytes (es, end) e in
    let one = ok_is (p.first, p.after) (entry, after) (sym (pair_read low bytes p.first p.after p.parts) ∙ pair) in
    let first_is : p.first ≡ entry = ap (λ (x : (ℕ × ℕ) × List ℕ). x.0) one in
    let after_is : p.after ≡ after = ap (λ (x : (ℕ × ℕ) × List ℕ). x.1) one in
    record {
      others = p.others;
      are = p.are ∙ ap (λ (e : ℕ × ℕ). e ∷ p.others) first_is;
      behind = sym (λ i. entries_at n (first_is i).0 (after_is i)) ∙ p.behind;
    }

-- the replica's own entry
pub own_found : (n low own : ℕ) (bytes : List ℕ) (es : List (ℕ × ℕ)) (end : List ℕ) (entry : ℕ × ℕ) (after : List ℕ)
    → 0 < n → pair_at bytes ≡ Ok (entry, after) → eqb entry.0 own ≡ true → entries_at n low bytes ≡ Ok (es, end) → entry.1 ≡ count_of es own
own_found zero low own bytes es end entry after some pair is e = absurd (omega arith)
own_found (suc n) low own bytes es end entry after some pair is e =
    let p = first_read n low bytes es end entry after pair e in
    let found : count_of (entry ∷ p.others) own ≡ entry.1 = rw is refl in
    sym (ap (λ (es : List (ℕ × ℕ)). count_of es own) p.are ∙ found)

-- the entry of another replica
pub own_behind : (n low own result : ℕ) (bytes : List ℕ) (es : List (ℕ × ℕ)) (end : List ℕ) (entry : ℕ × ℕ) (after : List ℕ)
    → 0 < n → pair_at bytes ≡ Ok (entry, after) → eqb entry.0 own ≡ false
    → ((low : ℕ) (es : List (ℕ × ℕ)) (end : List ℕ) → entries_at (n - 1) low after ≡ Ok (es, end) → result ≡ count_of es own)
    → entries_at n low bytes ≡ Ok (es, end) → result ≡ count_of es own
own_behind zero low own result bytes es end entry after some pair other rest e = absurd (omega arith)
own_behind (suc n) low own result bytes es end entry after some pair other rest e =
    let p = first_read n low bytes es end entry after pair e in
    let back : suc n - 1 ≡ n = omega arith in
    let found : count_of (entry ∷ p.others) own ≡ count_of p.others own = rw other refl in
    rest entry.0 p.others end (rw back p.behind) ∙ sym (ap (λ (es : List (ℕ × ℕ)). count_of es own) p.are ∙ found)

-- ---- the deps themselves

-- deps that were tested
record Tested (bytes : List ℕ) : Type 0 where
  count : ℕ
  rest : List ℕ
  end : List ℕ
  number : byte_at bytes ≡ Ok (count, rest)
  entries : entries_at count 0 rest ≡ Ok (deps_of bytes, end)
  clock : is_clock (deps_of bytes) ≡ true
  len : length (deps_of bytes) ≡ count

-- the deps that were read are those that the bytes begin with
pub deps_are : (bytes : List ℕ) (x : List (ℕ × ℕ) × List ℕ) → deps_at bytes ≡ Ok x → deps_of bytes ≡ x.0
unfolding deps_of
deps_are bytes x read = ap found_deps read

tested_of : (bytes : List ℕ) (x : List (ℕ × ℕ) × List ℕ) → deps_at bytes ≡ Ok x → Tested bytes
unfolding deps_at count_at
tested_of bytes x e =
    let a = bind_ok (byte_at bytes >>= within 0 16) (λ count. entries_at count.0 0 count.1) x e in
    let b = bind_ok (byte_at bytes) (within 0 16) a.0 a.1 in
    let range = in_range 0 16 b.0 a.0 b.2 in
    let rise = entries_rise a.0.0 0 a.0.1 x a.2 in
    let is = deps_are bytes x e in
    let most : length x.0 ≤ 16 = omega (arith, rise.1, range.2) in
    record {
      count = a.0.0;
      rest = a.0.1;
      end = x.1;
      number = b.1 ∙ ap (λ (n : ℕ × List ℕ). Ok n) range.0;
      entries = a.2 ∙ ap (λ (es : List (ℕ × ℕ)). Ok (es, x.1)) (sym is);
      clock = ap is_clock is ∙ made_clock x.0 rise.0 most;
      len = ap length is ∙ rise.1;
    }

some_read : {A : Type 0} (r : Result A CodecError) → IsOk r → (x : A) × (r ≡ Ok x)
some_read (Ok x) ok = (x, refl)
some_read (Err f) ok = absurd cc

tested : (bytes : List ℕ) → IsOk (deps_at bytes) → Tested bytes
tested bytes ok = let read = some_read (deps_at bytes) ok in tested_of bytes read.0 read.1

pub tested_clock : (bytes : List ℕ) → IsOk (deps_at bytes) → is_clock (deps_of bytes) ≡ true
tested_clock bytes ok = (tested bytes ok).clock

-- there are some bytes
pub tested_some : (bytes : List ℕ) → length bytes < 1 → IsOk (deps_at bytes) → ⊥
unfolding byte_at
tested_some [] none ok = let read = (tested [] ok).number in cc
tested_some (b ∷ bytes) none ok = absurd (omega arith)

pub tested_len : (bytes : List ℕ) → 1 ≤ length bytes → IsOk (deps_at bytes) → get_or bytes 0 0 ≡ length (deps_of bytes)
unfolding byte_at
tested_len [] some ok = absurd (omega arith)
tested_len (b ∷ bytes) some ok =
    let t = tested (b ∷ bytes) ok in
    let is = ok_is (b, bytes) (t.count, t.rest) t.number in
    ap (λ (x : ℕ × List ℕ). x.0) is ∙ sym t.len

pub tested_own : (bytes behind : List ℕ) (own result : ℕ) → 1 ≤ length bytes → behind ≡ drop 1 bytes → IsOk (deps_at bytes)
    → ((low : ℕ) (es : List (ℕ × ℕ)) (end : List ℕ) → entries_at (get_or bytes 0 0) low behind ≡ Ok (es, end) → result ≡ count_of es own)
    → result ≡ count_of (deps_of bytes) own
unfolding byte_at
tested_own [] behind own result some is ok rest = absurd (omega arith)
tested_own (b ∷ bytes) behind own result some is ok rest =
    let t = tested (b ∷ bytes) ok in
    let both = ok_is (b, bytes) (t.count, t.rest) t.number in
    let count_is : b ≡ t.count = ap (λ (x : ℕ × List ℕ). x.0) both in
    let rest_is : behind ≡ t.rest = is ∙ ap (λ (x : ℕ × List ℕ). x.1) both in
    rest 0 (deps_of (b ∷ bytes)) t.end ((λ i. entries_at (count_is i) 0 (rest_is i)) ∙ t.entries)

-- all that stands behind the first byte
pub all_behind : (bytes : List ℕ) → take (length bytes - 1) (drop 1 bytes) ≡ drop 1 bytes
all_behind bytes = take_all (length bytes - 1) (drop 1 bytes) (omega (arith, length-drop 1 bytes))
