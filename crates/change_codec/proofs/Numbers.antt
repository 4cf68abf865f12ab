-- Numbers and their bytes: a number that is read is the one that was written, and what was written is read again.
use Rattle.std.proofs.Common.{◌≡◌, ℕ, ◌^◌, ◌<◌, ◌≤◌, false, ltb, List, ◌++◌, length, subst, take, drop, Ok, refl, sym, ap, arith}
use Rattle.std.specs.Int.{Width, w16, w32, w64, w128, byte_len, from_be_bytes, to_be_bytes}
use Rattle.std.proofs.lemmas.Bool.{ltb-false, le-ltb}
use Rattle.std.proofs.lemmas.List.{take_at, drop_at, take-append-drop, length-append, length-take}
use Rattle.std.proofs.lemmas.Nat.{be_bytes_2, be_bytes_4, be_bytes_8, from_be_bytes-to_be_bytes_2, from_be_bytes-to_be_bytes_4, from_be_bytes-to_be_bytes_8}
use Rattle.op_ids.proofs.ByteLemmas.{to_be_bytes-from_be_bytes_16}
use Rattle.change_codec.specs.declared.codec_error.CodecError.TheVariants.{Length}
use Rattle.change_codec.specs.Spelling.{number_bytes}
use Rattle.change_codec.specs.Reading.{number_at, bytes_at}
use Rattle.change_codec.proofs.Steps.{IsBytes, IsBytes-take, IsBytes-drop, guard_ok, Takes}

-- the bytes of a width and its numbers below a limit are one another's
pub record IsWide (w : Width) (limit : ℕ) : Type 0 where
  pub len : (n : ℕ) → length (to_be_bytes w n) ≡ byte_len w
  pub back : (bytes : List ℕ) → length bytes ≡ byte_len w → IsBytes bytes → to_be_bytes w (from_be_bytes w bytes) ≡ bytes
  pub again : (n : ℕ) → n < limit → from_be_bytes w (to_be_bytes w n) ≡ n
  pub below : (bytes : List ℕ) → IsBytes bytes → from_be_bytes w bytes < limit

pub wide16 : IsWide w16 (2 ^ 16)
wide16 = record {
  len = λ n. refl;
  back = λ bytes len fits. be_bytes_2 bytes _ len fits refl;
  again = λ n lt. from_be_bytes-to_be_bytes_2 n lt;
  below = λ bytes fits. omega (arith, fits 0, fits 1);
}

pub wide32 : IsWide w32 (2 ^ 32)
wide32 = record {
  len = λ n. refl;
  back = λ bytes len fits. be_bytes_4 bytes _ len fits refl;
  again = λ n lt. from_be_bytes-to_be_bytes_4 n lt;
  below = λ bytes fits. omega (arith, fits 0, fits 1, fits 2, fits 3);
}

pub wide64 : IsWide w64 (2 ^ 64)
wide64 = record {
  len = λ n. refl;
  back = λ bytes len fits. be_bytes_8 bytes _ len fits refl;
  again = λ n lt. from_be_bytes-to_be_bytes_8 n lt;
  below = λ bytes fits. omega (arith, fits 0, fits 1, fits 2, fits 3, fits 4, fits 5, fits 6, fits 7);
}

again128 : (n : ℕ) → n < 2 ^ 128 → from_be_bytes w128 (to_be_bytes w128 n) ≡ n
again128 n lt = omega arith

pub wide128 : IsWide w128 (2 ^ 128)
wide128 = record {
  len = λ n. refl;
  back = λ bytes len fits. to_be_bytes-from_be_bytes_16 bytes len fits;
  again = again128;
  below = λ bytes fits. omega (arith, fits 0, fits 1, fits 2, fits 3, fits 4, fits 5, fits 6, fits 7, fits 8, fits 9, fits 10, fits 11, fits 12, fits 13, fits 14, fits 15);
}

pub number_takes : (w : Width) (limit : ℕ) (wide : IsWide w limit) (bytes : List ℕ) (x : ℕ × List ℕ) → IsBytes bytes → number_at w bytes ≡ Ok x → Takes bytes (number_bytes w x.0) x.1 × (x.0 < limit)
unfolding number_at number_bytes
number_takes w limit wide bytes x fits e =
    let g = guard_ok (ltb (length bytes) (byte_len w)) Length (from_be_bytes w (take (byte_len w) bytes), drop (byte_len w) bytes) x e in
    let long : byte_len w ≤ length bytes = ltb-false _ _ g.0 in
    let n-is : from_be_bytes w (take (byte_len w) bytes) ≡ x.0 = ap (λ (p : ℕ × List ℕ). p.0) g.1 in
    let rest-is : drop (byte_len w) bytes ≡ x.1 = ap (λ (p : ℕ × List ℕ). p.1) g.1 in
    let front : to_be_bytes w x.0 ≡ take (byte_len w) bytes = rw (← n-is) (wide.back (take (byte_len w) bytes) (omega (arith, length-take (byte_len w) bytes)) (IsBytes-take (byte_len w) bytes fits)) in
    (record { parts = rw (front, ← rest-is) (sym (take-append-drop (byte_len w) bytes)); rest_fits = rw (← rest-is) (IsBytes-drop (byte_len w) bytes fits) }, rw (← n-is) (wide.below (take (byte_len w) bytes) (IsBytes-take (byte_len w) bytes fits)))

pub number_again : (w : Width) (limit : ℕ) (wide : IsWide w limit) (n : ℕ) (rest : List ℕ) → n < limit → number_at w (number_bytes w n ++ rest) ≡ Ok (n, rest)
unfolding number_at number_bytes
number_again w limit wide n rest lt =
    let len = wide.len n in
    let long : ltb (length (to_be_bytes w n ++ rest)) (byte_len w) ≡ false = le-ltb _ _ (omega (arith, length-append (to_be_bytes w n) rest)) in
    rw (long, take_at (to_be_bytes w n) rest (byte_len w) len, drop_at (to_be_bytes w n) rest (byte_len w) len, wide.again n lt) refl

pub bytes_take : (n : ℕ) (bytes : List ℕ) (x : List ℕ × List ℕ) → IsBytes bytes → bytes_at n bytes ≡ Ok x → Takes bytes x.0 x.1 × (length x.0 ≡ n)
unfolding bytes_at
bytes_take n bytes x fits e =
    let g = guard_ok (ltb (length bytes) n) Length (take n bytes, drop n bytes) x e in
    let long : n ≤ length bytes = ltb-false _ _ g.0 in
    let len : length (take n bytes) ≡ n = omega (arith, length-take n bytes) in
    let parts : Takes bytes (take n bytes) (drop n bytes) = record { parts = sym (take-append-drop n bytes); rest_fits = IsBytes-drop n bytes fits } in
    subst (λ (p : List ℕ × List ℕ). Takes bytes p.0 p.1 × (length p.0 ≡ n)) g.1 (parts, len)

pub bytes_again : (text rest : List ℕ) → bytes_at (length text) (text ++ rest) ≡ Ok (text, rest)
unfolding bytes_at
bytes_again text rest =
    let long : ltb (length (text ++ rest)) (length text) ≡ false = le-ltb _ _ (omega (arith, length-append text rest)) in
    rw (long, take_at text rest (length text) refl, drop_at text rest (length text) refl) refl
